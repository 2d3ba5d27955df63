-- `mark_positions` meets its contract: each round marks the cell of one position.
use Rattle.routing_resources.specs.MarkLaws.{MarkedSoFar, rest_of}
use Rattle.job_sheet.specs.Places.{positions_in}
use Rattle.outset.specs.Outset.{stands_at}
use Rattle.outset.proofs.mark_positions.Given as goal

abbrev pub invariant-loop-i : goal.invariant-loop-i
invariant-loop-i l = MarkedSoFar 1 (rest_of (stands_at l.room) (positions_in l.sheet l.part)) l.initial.marks l.marks l.i
