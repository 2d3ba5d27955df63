-- `dustroute_tree` keeps its promise: that of `route_and_tell` in the published mode.
use borrow.Author.Rules.{rules}
use Rattle.dustroute.proofs.tree_export.dustroute_tree.Goals as goal

pub returns : goal.returns
returns c = c.route_and_tell.ensures
