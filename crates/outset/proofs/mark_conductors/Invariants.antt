-- `mark_conductors` meets its contract: each round marks one conductor and its keepout.
use Rattle.routing_resources.specs.MarkLaws.{MarkedSoFar, rest_of}
use Rattle.job_sheet.specs.Places.{positions_in}
use Rattle.outset.specs.Outset.{near_conductor}
use Rattle.outset.proofs.mark_conductors.Given as goal

abbrev pub invariant-loop-i : goal.invariant-loop-i
invariant-loop-i l = MarkedSoFar 1 (rest_of (near_conductor l.room) (positions_in l.sheet l.part)) l.initial.marks l.marks l.i
