-- `root_tree` meets its contract: masks and parents are made from cleared memory.
use mathlib.Core.Path.{◌∙◌}
use Rattle.basics.specs.Zeros.{cleared-to}
use Rattle.laying.specs.PlacingLaws.{tree-rooted}
use Rattle.laying.proofs.rooting.root_tree.Goals as goal

pub tree_adjacency-requires-clause-good : goal.tree_adjacency-requires-clause-good
tree_adjacency-requires-clause-good c = c.requires.good

pub tree_adjacency-requires-clause-branches_ready : goal.tree_adjacency-requires-clause-branches_ready
tree_adjacency-requires-clause-branches_ready c = c.requires.ready

pub tree_adjacency-requires-clause-links_value : goal.tree_adjacency-requires-clause-links_value
tree_adjacency-requires-clause-links_value c = cleared-to c.requires.links-long c.clear.ensures

pub rooted_parent-requires-clause-good : goal.rooted_parent-requires-clause-good
rooted_parent-requires-clause-good c = c.requires.good

pub rooted_parent-requires-clause-source_bound : goal.rooted_parent-requires-clause-source_bound
rooted_parent-requires-clause-source_bound c = c.requires.source_in

pub rooted_parent-requires-clause-links_len : goal.rooted_parent-requires-clause-links_len
rooted_parent-requires-clause-links_len c = (c.tree_adjacency.auto.links ∙ c.clear.auto.s ∙ c.requires.links-long)

pub rooted_parent-requires-clause-parents_value : goal.rooted_parent-requires-clause-parents_value
rooted_parent-requires-clause-parents_value c = cleared-to c.requires.parents-long c.clear-2.ensures

pub rooted_parent-requires-clause-line_len : goal.rooted_parent-requires-clause-line_len
rooted_parent-requires-clause-line_len c = c.requires.line-long

pub returns : goal.returns
returns c = tree-rooted c.tree_adjacency.ensures c.rooted_parent.ensures
