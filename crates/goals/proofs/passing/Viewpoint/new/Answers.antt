-- `new` meets its contract: an approach's sides are small.
use Rattle.room.specs.RoomLaws.{small_pos}
use Rattle.goals.proofs.passing.Viewpoint.new.Goals as goal

pub invariant_of-result : goal.invariant_of-result
invariant_of-result c = record {
  good = c.requires.good;
  good_ranges = c.requires.good_ranges;
  small = small_pos _ c.requires.good _ c.requires.start_in _ c.pos.ensures;
}
