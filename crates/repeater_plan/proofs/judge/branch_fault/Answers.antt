-- `branch_fault` meets its contract: the places so far are good.
use mathlib.Core.Path.{sym, ◌∙◌}
use Rattle.repeater_plan.specs.JudgeLaws.{places-first, places-next, places-bad, places-all}
use Rattle.repeater_plan.proofs.judge.branch_fault.Goals as goal

pub loop-i-init : goal.loop-i-init
loop-i-init c = places-first _ _

pub place_good-requires-clause-good : goal.place_good-requires-clause-good
place_good-requires-clause-good c = c.requires

pub place_good-requires-clause-i_in_bounds : goal.place_good-requires-clause-i_in_bounds
place_good-requires-clause-i_in_bounds c = c.loop-i-test.true

pub returns-then-not-place_good : goal.returns-then-not-place_good
returns-then-not-place_good c = places-bad _ _ c.loop-i.invariant c.loop-i-test.true (sym c.place_good.ensures ∙ c.if-not-place_good.true)

pub loop-i-preserved : goal.loop-i-preserved
loop-i-preserved c = places-next _ _ c.loop-i.invariant c.loop-i-test.true (sym c.place_good.ensures ∙ c.if-not-place_good.false)

pub returns : goal.returns
returns c = places-all _ _ c.loop-i.invariant c.loop-i-test.false
