-- `tree_adjacency` meets its contract. The loop's invariant: the branches left, added to the relation of now, make all branches.
use Rattle.std.proofs.Common.{refl, ◌∙◌, arith}
use Rattle.repeaters.specs.MaskLaws.{adding_masked, masked_none}
use Rattle.repeaters.specs.AdjacencyLaws.{laying_next, laying_all, branch-within, branch-laid}
use Rattle.repeaters.specs.NeighbourLaws.{tree-linked}
use Rattle.repeaters.proofs.links.tree_adjacency.Goals as goal

pub overflow_add-to : goal.overflow_add-to
overflow_add-to c = record { fits = omega (arith, branch-within c.requires.branches_ready c.loop-length.invariant.1 c.loop-length-test.true _ refl) }

pub slice_bounds-link_branch-end : goal.slice_bounds-link_branch-end
slice_bounds-link_branch-end c = branch-within c.requires.branches_ready c.loop-length.invariant.1 c.loop-length-test.true _ refl

pub link_branch-requires-clause-steps : goal.link_branch-requires-clause-steps
link_branch-requires-clause-steps c = branch-laid c.requires.branches_ready c.loop-length.invariant.1 c.loop-length-test.true _ refl

pub link_branch-requires-clause-masked : goal.link_branch-requires-clause-masked
link_branch-requires-clause-masked c = adding_masked c.loop-length.invariant.1.adding (masked_none c.requires.links_value)

pub loop-length-preserved : goal.loop-length-preserved
loop-length-preserved c =
    (c.link_branch.auto.links ∙ c.loop-length.invariant.0, laying_next c.requires.branches_ready c.loop-length.invariant.1 c.loop-length-test.true _ refl c.link_branch.ensures)

pub returns : goal.returns
returns c = tree-linked c.requires.good _ c.requires.branches_ready.steps c.requires.links_value (laying_all c.requires.branches_ready c.loop-length.invariant.1 c.loop-length-test.false)
