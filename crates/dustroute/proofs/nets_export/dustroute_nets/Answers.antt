-- `dustroute_nets` meets its contract: that of `route_and_tell`, in the mode that the number tells.
use borrow.Author.Rules.{rules}
use Rattle.dustroute.proofs.nets_export.dustroute_nets.Goals as goal

pub returns : goal.returns
returns c = rw c.mode_of-mode.ensures at c.route_and_tell.ensures
