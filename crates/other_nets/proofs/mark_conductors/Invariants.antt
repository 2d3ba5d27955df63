-- `mark_conductors` meets its contract: each round marks one cell and its keepout.
use Rattle.routing_resources.specs.MarkLaws.{MarkedSoFar, rest_of}
use Rattle.other_nets.specs.Others.{near_cell}
use Rattle.other_nets.proofs.mark_conductors.Given as goal

abbrev pub invariant-loop-cell : goal.invariant-loop-cell
invariant-loop-cell l = MarkedSoFar 1 (rest_of (near_cell l.room) l.branch) l.initial.marks l.marks l.cell-index
