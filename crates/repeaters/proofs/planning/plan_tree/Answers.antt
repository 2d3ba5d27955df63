-- `plan_tree` meets its contract: the masks are those of the tree, and so are the parents; the runs come first, and then the tails.
use mathlib.Core.Path.{◌∙◌}
use Rattle.repeaters.specs.SinkLaws.{tree-ready, placed}
use Rattle.basics.specs.Zeros.{cleared-to, zeros-long}
use Rattle.repeaters.proofs.planning.plan_tree.Goals as goal

pub tree_adjacency-requires-clause-good : goal.tree_adjacency-requires-clause-good
tree_adjacency-requires-clause-good c = c.requires.good

pub tree_adjacency-requires-clause-branches_ready : goal.tree_adjacency-requires-clause-branches_ready
tree_adjacency-requires-clause-branches_ready c = c.requires.laid

pub tree_adjacency-requires-clause-links_value : goal.tree_adjacency-requires-clause-links_value
tree_adjacency-requires-clause-links_value c = cleared-to c.requires.links-long c.clear.ensures

pub rooted_parent-requires-clause-good : goal.rooted_parent-requires-clause-good
rooted_parent-requires-clause-good c = c.requires.good

pub rooted_parent-requires-clause-source_bound : goal.rooted_parent-requires-clause-source_bound
rooted_parent-requires-clause-source_bound c = c.requires.source_in

pub rooted_parent-requires-clause-links_len : goal.rooted_parent-requires-clause-links_len
rooted_parent-requires-clause-links_len c = (c.tree_adjacency.auto.links ∙ c.clear.auto.s ∙ c.requires.links-long)

pub rooted_parent-requires-clause-parents_value : goal.rooted_parent-requires-clause-parents_value
rooted_parent-requires-clause-parents_value c = cleared-to c.requires.parents-long c.clear-2.ensures

pub rooted_parent-requires-clause-line_len : goal.rooted_parent-requires-clause-line_len
rooted_parent-requires-clause-line_len c = c.requires.line-long

pub invariant_of-tree : goal.invariant_of-tree
invariant_of-tree c = record { ready = tree-ready c.requires (c.tree_adjacency.auto.links ∙ c.clear.auto.s) c.rooted_parent.ensures }

pub plan_repeaters-requires-clause-taps_inside : goal.plan_repeaters-requires-clause-taps_inside
plan_repeaters-requires-clause-taps_inside c = c.requires.taps_in_lem

pub plan_repeaters-requires-clause-repeaters_len : goal.plan_repeaters-requires-clause-repeaters_len
plan_repeaters-requires-clause-repeaters_len c = zeros-long c.requires.unmarked

pub plan_repeaters-requires-clause-line_len : goal.plan_repeaters-requires-clause-line_len
plan_repeaters-requires-clause-line_len c = c.rooted_parent.auto.line ∙ c.requires.line-long

pub reinforce_wire_sink_tails-requires-clause-taps_inside : goal.reinforce_wire_sink_tails-requires-clause-taps_inside
reinforce_wire_sink_tails-requires-clause-taps_inside c = c.requires.taps_in_lem

pub reinforce_wire_sink_tails-requires-clause-repeaters_len : goal.reinforce_wire_sink_tails-requires-clause-repeaters_len
reinforce_wire_sink_tails-requires-clause-repeaters_len c = c.plan_repeaters.auto.repeaters ∙ zeros-long c.requires.unmarked

pub reinforce_wire_sink_tails-requires-clause-line_len : goal.reinforce_wire_sink_tails-requires-clause-line_len
reinforce_wire_sink_tails-requires-clause-line_len c = c.plan_repeaters.auto.line ∙ c.rooted_parent.auto.line ∙ c.requires.line-long

pub returns : goal.returns
returns c = placed _ _ _ _ _ _ _ _ c.tree_adjacency.ensures c.rooted_parent.ensures.is _ _ _ c.requires.unmarked c.plan_repeaters.ensures c.reinforce_wire_sink_tails.ensures
