-- `bare_step` meets its contract: a flat step, or a stair.
use Rattle.relaxed.specs.CheckLaws.{step-flat, step_stair}
use Rattle.relaxed.proofs.check.bare_step.Goals as goal

pub returns-then-m-eq1 : goal.returns-then-m-eq1
returns-then-m-eq1 c = step-flat _ _ c.if-m-eq1.true

pub returns-else-m-eq1 : goal.returns-else-m-eq1
returns-else-m-eq1 c = step_stair _ _ c.if-m-eq1.false
