-- `leave` takes the first of the least key out.
use mathlib.Core.Path.{refl}
use Rattle.keyed_lists.specs.LeaveWords.{first-gone-left}
use Rattle.keyed_lists.proofs.leave.Goals as goal

pub returns : goal.returns
returns c = first-gone-left _ _ _ c.requires.keyed refl c.least_key-key.ensures.some c.least_key-key.ensures _ _ c.take_first.ensures
