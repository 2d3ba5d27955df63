-- `is_move` meets its contract: none of the moves so far leads there.
use mathlib.Core.Path.{sym, ◌∙◌}
use Rattle.repeater_plan.specs.JudgeLaws.{none-leads, leads_not, leads-there, leads-nowhere, move-small, tested}
use Rattle.repeater_plan.proofs.judge.is_move.Goals as goal

pub loop-k-init : goal.loop-k-init
loop-k-init c = none-leads _ _ _

pub move_at-requires : goal.move_at-requires
move_at-requires c = c.loop-k-test.true

pub neighbour-requires-clause-good : goal.neighbour-requires-clause-good
neighbour-requires-clause-good c = c.requires.good

pub neighbour-requires-clause-cell_bound : goal.neighbour-requires-clause-cell_bound
neighbour-requires-clause-cell_bound c = c.requires.a_bound

pub neighbour-requires-clause-x_bound : goal.neighbour-requires-clause-x_bound
neighbour-requires-clause-x_bound c = move-small c.loop-k-test.true c.move_at.ensures

pub returns-then-is_at : goal.returns-then-is_at
returns-then-is_at c = leads-there _ _ _ c.loop-k.invariant c.loop-k-test.true (sym (tested _ _ _ _ c.move_at.ensures c.neighbour.ensures c.is_at.ensures) ∙ c.if-is_at.true)

pub loop-k-preserved : goal.loop-k-preserved
loop-k-preserved c = leads_not _ _ _ c.loop-k.invariant c.loop-k-test.true (sym (tested _ _ _ _ c.move_at.ensures c.neighbour.ensures c.is_at.ensures) ∙ c.if-is_at.false)

pub returns : goal.returns
returns c = leads-nowhere _ _ _ c.loop-k.invariant c.loop-k-test.false
