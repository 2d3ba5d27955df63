-- `goes_on` meets its contract: the kept goal's sides are small.
use Rattle.room.specs.RoomLaws.{small_pos}
use Rattle.goals.proofs.passing.Viewpoint.goes_on.Goals as goal

pub makes_detour-requires-clause-small_pos_2 : goal.makes_detour-requires-clause-small_pos_2
makes_detour-requires-clause-small_pos_2 c = small_pos _ c.args.self.good _ (rw c.in-Some.is at c.requires) _ c.pos.ensures
