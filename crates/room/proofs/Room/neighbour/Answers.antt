-- `Room::neighbour` meets its contract: a cell's position is in the room, and the move leads from there.
use Rattle.room.specs.Room.{neighbour}
use Rattle.room.specs.RoomLaws.{pos_in}
use Rattle.room.proofs.Room.neighbour.Goals as goal

pub neighbour_at-requires-clause-good : goal.neighbour_at-requires-clause-good
neighbour_at-requires-clause-good c = c.requires.good

pub neighbour_at-requires-clause-within : goal.neighbour_at-requires-clause-within
neighbour_at-requires-clause-within c = rw c.pos.ensures (pos_in _ c.requires.good _ c.requires.cell_bound)

pub neighbour_at-requires-clause-x_bound : goal.neighbour_at-requires-clause-x_bound
neighbour_at-requires-clause-x_bound c = c.requires.x_bound

pub returns : goal.returns
unfolding neighbour
returns c = rw (c.neighbour_at.ensures, c.pos.ensures)
