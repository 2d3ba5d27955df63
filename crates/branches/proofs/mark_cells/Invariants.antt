-- `mark_cells` meets its contract: each round marks one of the cells.
use lib.Dec.{eqb}
use Rattle.routing_resources.specs.MarkLaws.{MarkedSoFar, rest_of}
use Rattle.branches.proofs.mark_cells.Given as goal

abbrev pub invariant-loop-cell : goal.invariant-loop-cell
invariant-loop-cell l = MarkedSoFar 1 (rest_of (λ v cell. eqb cell v) l.cells) l.initial.marks l.marks l.cell-index
