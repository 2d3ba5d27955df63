-- `tell_walls` meets its contract: both outputs are cleared, and their first cells lent on.
use Rattle.flood.specs.Walls.{byte_of}
use Rattle.flood.specs.WallLaws.{reached_zero, reached-long, walls_zero, walls-long, walls-told}
use borrow.Author.Rules.{rules}
use Rattle.flood.proofs.walls.tell_walls.Goals as goal

pub slice_bounds-tell_cells-end-2 : goal.slice_bounds-tell_cells-end-2
slice_bounds-tell_cells-end-2 c = reached-long c.args.room c.args.reached.now c.args.walls.now c.volume-cells.ensures c.clear.ensures c.clear-2.ensures c.requires.room_in_bounds c.requires.room_in_bounds_2

pub slice_bounds-tell_cells-end-4 : goal.slice_bounds-tell_cells-end-4
slice_bounds-tell_cells-end-4 c = walls-long c.args.room c.args.reached.now c.args.walls.now c.volume-cells.ensures c.clear.ensures c.clear-2.ensures c.requires.room_in_bounds c.requires.room_in_bounds_2

pub tell_cells-requires-clause-good : goal.tell_cells-requires-clause-good
tell_cells-requires-clause-good c = let z = reached_zero c.args.room c.args.reached.now c.args.walls.now c.volume-cells.ensures c.clear.ensures c.clear-2.ensures c.requires.room_in_bounds c.requires.room_in_bounds_2 in let l = walls_zero c.args.room c.args.reached.now c.args.walls.now c.volume-cells.ensures c.clear.ensures c.clear-2.ensures c.requires.room_in_bounds c.requires.room_in_bounds_2 in c.requires.good

pub tell_cells-requires-clause-start_bound : goal.tell_cells-requires-clause-start_bound
tell_cells-requires-clause-start_bound c = let z = reached_zero c.args.room c.args.reached.now c.args.walls.now c.volume-cells.ensures c.clear.ensures c.clear-2.ensures c.requires.room_in_bounds c.requires.room_in_bounds_2 in let l = walls_zero c.args.room c.args.reached.now c.args.walls.now c.volume-cells.ensures c.clear.ensures c.clear-2.ensures c.requires.room_in_bounds c.requires.room_in_bounds_2 in c.requires.start_bound

pub tell_cells-requires-clause-obstacles_len : goal.tell_cells-requires-clause-obstacles_len
tell_cells-requires-clause-obstacles_len c = let z = reached_zero c.args.room c.args.reached.now c.args.walls.now c.volume-cells.ensures c.clear.ensures c.clear-2.ensures c.requires.room_in_bounds c.requires.room_in_bounds_2 in let l = walls_zero c.args.room c.args.reached.now c.args.walls.now c.volume-cells.ensures c.clear.ensures c.clear-2.ensures c.requires.room_in_bounds c.requires.room_in_bounds_2 in c.requires.obstacles_len

pub tell_cells-requires-clause-line_len : goal.tell_cells-requires-clause-line_len
tell_cells-requires-clause-line_len c = let z = reached_zero c.args.room c.args.reached.now c.args.walls.now c.volume-cells.ensures c.clear.ensures c.clear-2.ensures c.requires.room_in_bounds c.requires.room_in_bounds_2 in let l = walls_zero c.args.room c.args.reached.now c.args.walls.now c.volume-cells.ensures c.clear.ensures c.clear-2.ensures c.requires.room_in_bounds c.requires.room_in_bounds_2 in c.requires.line_len

pub tell_cells-requires-clause-reached_value : goal.tell_cells-requires-clause-reached_value
tell_cells-requires-clause-reached_value c = let z = reached_zero c.args.room c.args.reached.now c.args.walls.now c.volume-cells.ensures c.clear.ensures c.clear-2.ensures c.requires.room_in_bounds c.requires.room_in_bounds_2 in let l = walls_zero c.args.room c.args.reached.now c.args.walls.now c.volume-cells.ensures c.clear.ensures c.clear-2.ensures c.requires.room_in_bounds c.requires.room_in_bounds_2 in z

pub tell_cells-requires-clause-walls_value : goal.tell_cells-requires-clause-walls_value
tell_cells-requires-clause-walls_value c = let z = reached_zero c.args.room c.args.reached.now c.args.walls.now c.volume-cells.ensures c.clear.ensures c.clear-2.ensures c.requires.room_in_bounds c.requires.room_in_bounds_2 in let l = walls_zero c.args.room c.args.reached.now c.args.walls.now c.volume-cells.ensures c.clear.ensures c.clear-2.ensures c.requires.room_in_bounds c.requires.room_in_bounds_2 in l

pub returns : goal.returns
returns c = walls-told c.args.room c.args.reached.now c.args.walls.now c.volume-cells.ensures c.clear.ensures c.clear-2.ensures c.requires.room_in_bounds c.requires.room_in_bounds_2 (byte_of c.args.obstacles.now) c.args.start c.tell_cells.ensures
