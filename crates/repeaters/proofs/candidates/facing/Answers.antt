-- `facing` meets its contract: a cell's position is below the sides.
use Rattle.room.specs.RoomLaws.{small_pos}
use Rattle.repeaters.proofs.candidates.facing.Goals as goal

pub facing_by-requires-clause-small_pos : goal.facing_by-requires-clause-small_pos
facing_by-requires-clause-small_pos c = small_pos _ c.requires.good _ c.requires.a_bound _ c.pos-p.ensures

pub facing_by-requires-clause-small_pos_2 : goal.facing_by-requires-clause-small_pos_2
facing_by-requires-clause-small_pos_2 c = small_pos _ c.requires.good _ c.requires.b_bound _ c.pos-q.ensures

pub returns : goal.returns
returns c = rw (c.pos-p.ensures, c.pos-q.ensures) at c.facing_by.ensures
