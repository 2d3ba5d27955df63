-- `tell` meets its contract: the first cells of the work memory are lent on, and it is cleared behind that.
use mathlib.Core.Path.{sym, ◌∙◌}
use Rattle.why.specs.ObstacleLaws.{path-long, classes-long, lent-long, why-told}
use borrow.Author.Rules.{rules}
use Rattle.why.proofs.why.tell.Goals as goal

pub slice_bounds-fill_obstacles-end-2 : goal.slice_bounds-fill_obstacles-end-2
slice_bounds-fill_obstacles-end-2 c = c.volume-cells.ensures ∙ sym (classes-long c.requires c.volume-cells.ensures)

pub fill_obstacles-requires-clause-good : goal.fill_obstacles-requires-clause-good
fill_obstacles-requires-clause-good c = let p = c.requires in p.good

pub fill_obstacles-requires-clause-kinds_len : goal.fill_obstacles-requires-clause-kinds_len
fill_obstacles-requires-clause-kinds_len c = let p = c.requires in p.kinds-long

pub fill_obstacles-requires-clause-obstacles_len : goal.fill_obstacles-requires-clause-obstacles_len
fill_obstacles-requires-clause-obstacles_len c = let p = c.requires in classes-long p c.volume-cells.ensures

pub fill_obstacles-requires-clause-start_bound : goal.fill_obstacles-requires-clause-start_bound
fill_obstacles-requires-clause-start_bound c = let p = c.requires in p.start_in

pub fill_obstacles-requires-clause-goal_bound : goal.fill_obstacles-requires-clause-goal_bound
fill_obstacles-requires-clause-goal_bound c = let p = c.requires in p.goal_in

pub slice_bounds-tell_walls-end-2 : goal.slice_bounds-tell_walls-end-2
slice_bounds-tell_walls-end-2 c = c.volume-cells.ensures ∙ sym (lent-long c.requires c.volume-cells.ensures c.fill_obstacles.ensures c.fill_obstacles.auto.obstacles)

pub slice_bounds-tell_walls-end-4 : goal.slice_bounds-tell_walls-end-4
slice_bounds-tell_walls-end-4 c = c.volume-cells.ensures ∙ sym (path-long c.requires c.volume-cells.ensures)

pub tell_walls-requires-clause-good : goal.tell_walls-requires-clause-good
tell_walls-requires-clause-good c = let p = c.requires in let e = c.volume-cells.ensures in p.good

pub tell_walls-requires-clause-start_bound : goal.tell_walls-requires-clause-start_bound
tell_walls-requires-clause-start_bound c = let p = c.requires in let e = c.volume-cells.ensures in p.start_in

pub tell_walls-requires-clause-obstacles_len : goal.tell_walls-requires-clause-obstacles_len
tell_walls-requires-clause-obstacles_len c = let p = c.requires in let e = c.volume-cells.ensures in lent-long p e c.fill_obstacles.ensures c.fill_obstacles.auto.obstacles

pub tell_walls-requires-clause-line_len : goal.tell_walls-requires-clause-line_len
tell_walls-requires-clause-line_len c = let p = c.requires in let e = c.volume-cells.ensures in path-long p e

pub tell_walls-requires-clause-room_in_bounds : goal.tell_walls-requires-clause-room_in_bounds
tell_walls-requires-clause-room_in_bounds c = let p = c.requires in let e = c.volume-cells.ensures in p.reached-enough

pub tell_walls-requires-clause-room_in_bounds_2 : goal.tell_walls-requires-clause-room_in_bounds_2
tell_walls-requires-clause-room_in_bounds_2 c = let p = c.requires in let e = c.volume-cells.ensures in p.walls-enough

pub returns : goal.returns
returns c = let T = c.tell_walls in why-told c.requires c.volume-cells.ensures c.fill_obstacles.ensures c.fill_obstacles.auto.obstacles T.new.line T.auto.line T.ensures c.clear.ensures c.clear-2.ensures
