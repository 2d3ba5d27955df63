-- `least_to` meets its contract: a cell's sides are small.
use Rattle.room.specs.RoomLaws.{small_pos}
use Rattle.goals.proofs.passing.Viewpoint.least_to.Goals as goal

pub least_at-requires-clause-small_pos_2 : goal.least_at-requires-clause-small_pos_2
least_at-requires-clause-small_pos_2 c = small_pos _ c.args.self.good _ c.requires _ c.pos.ensures
