-- `tree_adjacency` meets its contract. The loop's invariant: the branches left, added to the relation of now, make all branches.
use mathlib.Core.Path.{◌≡◌}
use lib.ListN.{length}
use Rattle.repeaters.specs.AdjacencyLaws.{LayingLinks}
use Rattle.repeaters.proofs.links.tree_adjacency.Given as goal

abbrev pub invariant-loop-length : goal.invariant-loop-length
invariant-loop-length l = (length l.links ≡ length l.initial.links) × LayingLinks l.room l.fn.lengths l.branches l.initial.links l.links l.from l.length-index
