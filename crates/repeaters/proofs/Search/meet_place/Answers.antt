-- `Search::meet_place` meets its contract: it meets the cell at the place, if there is one.
use Rattle.std.proofs.Common.{refl}
use Rattle.repeaters.specs.RootLaws.{met-none}
use Rattle.repeaters.proofs.Search.meet_place.Goals as goal

pub returns-in_default : goal.returns-in_default
returns-in_default c = rw c.in_default.is (record { parents_is = refl; line_is = refl; met = met-none c.args.self.now.held _ })
