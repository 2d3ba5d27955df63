-- `dustroute_tree_mode` keeps its promise: that of `route_and_tell` in the mode that the number stands for.
use borrow.Author.Rules.{rules}
use Rattle.dustroute.proofs.tree_export.dustroute_tree_mode.Goals as goal

pub returns : goal.returns
returns c = rw c.mode_of-mode.ensures at c.route_and_tell.ensures
