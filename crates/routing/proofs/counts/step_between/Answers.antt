-- `step_between` meets its contract: level or not, by the two positions.
use Rattle.routing.specs.TotalLaws.{step-flat, step_stair}
use Rattle.routing.proofs.counts.step_between.Goals as goal

pub returns-then-here-there : goal.returns-then-here-there
returns-then-here-there c = let a = c.args in step-flat a.room a.config a.from a.to (rw (c.pos-here.ensures, c.pos-there.ensures) at c.if-here-there.true)

pub returns-else-here-there : goal.returns-else-here-there
returns-else-here-there c = let a = c.args in step_stair a.room a.config a.from a.to (rw (c.pos-here.ensures, c.pos-there.ensures) at c.if-here-there.false)
