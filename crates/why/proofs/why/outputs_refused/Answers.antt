-- `outputs_refused` meets its contract: the tests one by one.
use native.Mathlib.Omega.{arith}
use mathlib.Core.Path.{sym, ◌∙◌}
use borrow.Author.Tests.{lt-ltb}
use Rattle.room.specs.RoomLaws.{good}
use Rattle.why.specs.WhyLaws.{short-sides, short-config, short-reached, short-walls}
use borrow.Author.Rules.{rules}
use Rattle.why.proofs.why.outputs_refused.Goals as goal
use Rattle.why.proofs.why.outputs_refused.Goals.{then-not-good-via-then-not-good, then-not-good-via-else-not-good+then-not-good-2}

pub good-requires-else-not-good : goal.good-requires-else-not-good
good-requires-else-not-good c = good _ (sym c.good.ensures ∙ c.if-not-good.false)

pub returns-then-not-good : goal.returns-then-not-good
returns-then-not-good c =
    let a = c.args in
    elim c.then-not-good.branch [ then-not-good-via-then-not-good w ↦ short-sides a.room a.config a.reached a.walls (sym c.good.ensures ∙ w.if-not-good.true) | then-not-good-via-else-not-good+then-not-good-2 w ↦ short-config a.room a.config a.reached a.walls (sym c.good.ensures ∙ w.if-not-good.false) (sym w.good-else-not-good.ensures ∙ w.if-not-good-2.true) ]

pub volume-v-requires : goal.volume-v-requires
volume-v-requires c = good _ (sym c.good.ensures ∙ c.if-not-good.false)

pub overflow_mul-result : goal.overflow_mul-result
overflow_mul-result c = let G = good c.args.room (sym c.good.ensures ∙ c.if-not-good.false) in record { fits = omega (arith, G.few, c.volume-v.ensures) }

pub returns-then-reached-v : goal.returns-then-reached-v
returns-then-reached-v c =
    let a = c.args in
    rw (lt-ltb _ _ c.if-reached-v.true) (short-reached a.room a.config a.reached a.walls (sym c.good.ensures ∙ c.if-not-good.false) (sym c.good-else-not-good.ensures ∙ c.if-not-good-2.false) (omega (arith, c.volume-v.ensures, c.if-reached-v.true)))

pub returns-else-reached-v : goal.returns-else-reached-v
returns-else-reached-v c =
    let a = c.args in
    rw c.volume-v.ensures (short-walls a.room a.config a.reached a.walls (sym c.good.ensures ∙ c.if-not-good.false) (sym c.good-else-not-good.ensures ∙ c.if-not-good-2.false) (omega (arith, c.volume-v.ensures, c.if-reached-v.false)))
