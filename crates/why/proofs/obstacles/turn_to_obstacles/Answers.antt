-- `turn_to_obstacles` meets its contract. The loop's invariant: the classes of the cells below v are turned, the others as they were.
use mathlib.Core.Path.{sym}
use Rattle.why.specs.ObstacleLaws.{turning_all}
use borrow.Author.Rules.{rules}
use Rattle.why.proofs.obstacles.turn_to_obstacles.Goals as goal

pub returns : goal.returns
returns c = turning_all _ _ c.loop-v.invariant (sym c.requires) c.loop-v-test.false
