-- `reaches_none` meets its contract. The loop's invariant: none of the cells below v is reached and joinable.
use native.Mathlib.Omega.{arith}
use mathlib.Core.Path.{sym, ap, ◌∙◌}
use mathlib.Core.Bool.{not}
use Rattle.why_tree.proofs.TellingLaws.{passed_none, passed-next, passed-all, below_fails}
use Rattle.why_tree.proofs.sink.reaches_none.Goals as goal

pub loop-v-init : goal.loop-v-init
loop-v-init c = passed_none _ _

pub returns-then-is_joined : goal.returns-then-is_joined
returns-then-is_joined c = below_fails _ _ _ (omega arith) (ap not (sym c.is_joined.ensures ∙ c.if-is_joined.true))

pub loop-v-preserved : goal.loop-v-preserved
loop-v-preserved c = passed-next c.loop-v.invariant (omega arith) (ap not (sym c.is_joined.ensures ∙ c.if-is_joined.false))

pub returns : goal.returns
returns c = passed-all c.loop-v.invariant (omega arith)
