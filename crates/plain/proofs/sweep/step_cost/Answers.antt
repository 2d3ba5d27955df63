-- `step_cost` meets its contract: its two cases are the definition's.
use Rattle.plain.specs.SweepingLaws.{cost-flat, cost_stair}
use Rattle.plain.proofs.sweep.step_cost.Goals as goal

pub returns-then-m-eq1 : goal.returns-then-m-eq1
returns-then-m-eq1 c = cost-flat _ c.args.m 0 c.if-m-eq1.true

pub returns-else-m-eq1 : goal.returns-else-m-eq1
returns-else-m-eq1 c = cost_stair _ c.args.m 0 c.if-m-eq1.false
