-- `tell_sink` meets its contract: the walls over the obstacles, and the verdict by its tests.
use mathlib.Core.Path.{sym, ◌∙◌}
use native.Mathlib.Omega.{arith}
use Rattle.basics.specs.Tests.{test_fails, test-passes}
use Rattle.why_tree.proofs.TellingLaws.{told-taken, told-shut, told_open}
use Rattle.why_tree.proofs.sink.tell_sink.Goals as goal

pub fill_obstacles-requires-clause-turn_fits : goal.fill_obstacles-requires-clause-turn_fits
fill_obstacles-requires-clause-turn_fits c = let p = c.requires in p.fits

pub fill_obstacles-requires-clause-obstacles_len : goal.fill_obstacles-requires-clause-obstacles_len
fill_obstacles-requires-clause-obstacles_len c = let p = c.requires in p.obstacles_long

pub tell_walls-requires-clause-good : goal.tell_walls-requires-clause-good
tell_walls-requires-clause-good c = let p = c.requires in p.fits.good

pub tell_walls-requires-clause-start_bound : goal.tell_walls-requires-clause-start_bound
tell_walls-requires-clause-start_bound c = let p = c.requires in p.approach_in

pub tell_walls-requires-clause-obstacles_len : goal.tell_walls-requires-clause-obstacles_len
tell_walls-requires-clause-obstacles_len c = let p = c.requires in c.fill_obstacles.auto.obstacles ∙ p.obstacles_long

pub tell_walls-requires-clause-line_len : goal.tell_walls-requires-clause-line_len
tell_walls-requires-clause-line_len c = let p = c.requires in p.line-long

pub tell_walls-requires-clause-room_in_bounds : goal.tell_walls-requires-clause-room_in_bounds
tell_walls-requires-clause-room_in_bounds c = let p = c.requires in p.reached-enough

pub tell_walls-requires-clause-room_in_bounds_2 : goal.tell_walls-requires-clause-room_in_bounds_2
tell_walls-requires-clause-room_in_bounds_2 c = let p = c.requires in p.walls-enough

pub returns-then-not-routeable_kind : goal.returns-then-not-routeable_kind
returns-then-not-routeable_kind c = told-taken c.requires c.fill_obstacles.ensures c.tell_walls.ensures (test_fails c.routeable_kind.ensures c.if-not-routeable_kind.true-raw)

pub reaches_none-requires : goal.reaches_none-requires
reaches_none-requires c = omega (arith, c.requires.fits.joinable-long, c.requires.reached-enough, c.tell_walls.auto.reached)

pub returns-then-reaches_none : goal.returns-then-reaches_none
returns-then-reaches_none c = told-shut c.requires c.fill_obstacles.ensures c.tell_walls.ensures (test-passes c.routeable_kind.ensures c.if-not-routeable_kind.false-raw) (sym c.reaches_none.ensures ∙ c.if-reaches_none.true)

pub open_verdict-requires : goal.open_verdict-requires
open_verdict-requires c = c.requires.fits.good

pub returns-else-reaches_none : goal.returns-else-reaches_none
returns-else-reaches_none c = told_open c.requires c.fill_obstacles.ensures c.tell_walls.ensures (test-passes c.routeable_kind.ensures c.if-not-routeable_kind.false-raw) (sym c.reaches_none.ensures ∙ c.if-reaches_none.false) c.open_verdict.ensures
