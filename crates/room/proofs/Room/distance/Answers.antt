-- `Room::distance` meets its contract: that of the cells' positions, of which each part is below a side.
use mathlib.Core.Path.{◌∙◌}
use Rattle.room.specs.Room.{distance}
use Rattle.room.specs.RoomLaws.{small_pos}
use Rattle.room.proofs.Room.distance.Goals as goal

pub distance_at-requires-clause-small_pos : goal.distance_at-requires-clause-small_pos
distance_at-requires-clause-small_pos c =
    small_pos _ c.requires.good _ c.requires.a_bound _ c.pos.ensures

pub distance_at-requires-clause-small_pos_2 : goal.distance_at-requires-clause-small_pos_2
distance_at-requires-clause-small_pos_2 c =
    small_pos _ c.requires.good _ c.requires.b_bound _ c.pos-2.ensures

pub returns : goal.returns
unfolding distance
returns c = c.distance_at.ensures ∙ rw (c.pos.ensures, c.pos-2.ensures)
