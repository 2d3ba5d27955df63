-- `dustroute_tree_why` keeps its promise: that of `why_and_tell`.
use borrow.Author.Rules.{rules}
use Rattle.dustroute.proofs.tree_why_export.dustroute_tree_why.Goals as goal

pub returns : goal.returns
returns c = c.why_and_tell.ensures
