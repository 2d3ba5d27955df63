-- `room_of` meets its contract: the sides behind the length.
use Rattle.job_sheet.specs.Places.{contents_in}
use Rattle.job_list.proofs.ground.room_of.Goals as goal

pub returns : goal.returns
unfolding contents_in
returns c = rw c.version_in-version.ensures at c.room_from.ensures
