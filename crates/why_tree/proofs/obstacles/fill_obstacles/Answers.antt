-- `fill_obstacles` meets its contract. The loop's invariant: the cells below v have their obstacle.
use mathlib.Core.Path.{sym}
use Rattle.why.specs.ObstacleLaws.{turning_none, turning_next, turning_all}
use Rattle.why_tree.proofs.obstacles.fill_obstacles.Goals as goal

pub loop-v-init : goal.loop-v-init
loop-v-init c = turning_none _ _

pub obstacle_at-requires-clause-turn_fits : goal.obstacle_at-requires-clause-turn_fits
obstacle_at-requires-clause-turn_fits c = c.requires.turn_fits

pub obstacle_at-requires-clause-cell_bound : goal.obstacle_at-requires-clause-cell_bound
obstacle_at-requires-clause-cell_bound c = rw c.requires.obstacles_len at c.loop-v-test.true

pub loop-v-preserved : goal.loop-v-preserved
loop-v-preserved c = turning_next _ _ c.loop-v.invariant c.loop-v-test.true _ c.obstacle_at.ensures

pub returns : goal.returns
returns c = turning_all _ _ c.loop-v.invariant (sym c.requires.obstacles_len) (rw c.requires.obstacles_len at c.loop-v-test.false)
