-- `mark_keepouts` meets its contract: each round marks the keepout of one conductor.
use Rattle.routing_resources.specs.MarkLaws.{MarkedSoFar, rest_of}
use Rattle.job_sheet.specs.Places.{positions_in}
use Rattle.causes.specs.Causes.{beside_conductor}
use Rattle.causes.proofs.reasons.mark_keepouts.Given as goal

abbrev pub invariant-loop-i : goal.invariant-loop-i
invariant-loop-i l = MarkedSoFar 1 (rest_of (beside_conductor l.room) (positions_in l.sheet l.part)) l.initial.marks l.marks l.i
