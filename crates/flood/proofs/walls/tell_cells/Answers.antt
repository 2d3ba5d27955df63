-- `tell_cells` meets its contract: the flood, and the walls of the cells that it marks.
use Rattle.flood.specs.Walls.{byte_of}
use Rattle.flood.specs.WallLaws.{marks-long, walls-written}
use borrow.Author.Rules.{rules}
use Rattle.flood.proofs.walls.tell_cells.Goals as goal

pub flood-requires-clause-good : goal.flood-requires-clause-good
flood-requires-clause-good c = c.requires.good

pub flood-requires-clause-start_bound : goal.flood-requires-clause-start_bound
flood-requires-clause-start_bound c = c.requires.start_bound

pub flood-requires-clause-obstacles_len : goal.flood-requires-clause-obstacles_len
flood-requires-clause-obstacles_len c = c.requires.obstacles_len

pub flood-requires-clause-reached_value : goal.flood-requires-clause-reached_value
flood-requires-clause-reached_value c = c.requires.reached_value

pub flood-requires-clause-line_len : goal.flood-requires-clause-line_len
flood-requires-clause-line_len c = c.requires.line_len

pub write_walls-requires-clause-good : goal.write_walls-requires-clause-good
write_walls-requires-clause-good c = c.requires.good

pub write_walls-requires-clause-obstacles_len : goal.write_walls-requires-clause-obstacles_len
write_walls-requires-clause-obstacles_len c = c.requires.obstacles_len

pub write_walls-requires-clause-reached_len : goal.write_walls-requires-clause-reached_len
write_walls-requires-clause-reached_len c = marks-long c.args.room (byte_of c.args.obstacles.now) c.args.start c.flood.ensures

pub write_walls-requires-clause-walls_value : goal.write_walls-requires-clause-walls_value
write_walls-requires-clause-walls_value c = c.requires.walls_value

pub returns : goal.returns
returns c = walls-written c.args.room (byte_of c.args.obstacles.now) c.args.start c.flood.ensures c.write_walls.ensures
