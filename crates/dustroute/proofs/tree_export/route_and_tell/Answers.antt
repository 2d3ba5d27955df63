-- `route_and_tell` keeps its promise: too few values, or the answer of the tree, told.
use Rattle.exports.specs.TreeExportLaws.{tree-short, tree-told}
use borrow.Author.Rules.{rules}
use Rattle.dustroute.proofs.tree_export.route_and_tell.Goals as goal

pub returns-then-values-lt-TREE_VALUES : goal.returns-then-values-lt-TREE_VALUES
returns-then-values-lt-TREE_VALUES c = tree-short c.if-values-lt-TREE_VALUES.true c.short_number.ensures

pub tell_tree-requires : goal.tell_tree-requires
tell_tree-requires c = c.if-values-lt-TREE_VALUES.false

pub returns : goal.returns
returns c = tree-told c.if-values-lt-TREE_VALUES.false c.route_net_tree-answer.ensures c.tell_tree.ensures.value c.tell_tree.ensures.values_after
