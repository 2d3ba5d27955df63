-- `add_marks` meets its contract: each round adds one mark.
use Rattle.routing_resources.specs.MarkLaws.{MarkedSoFar}
use Rattle.other_nets.specs.OtherLaws.{marked_from}
use Rattle.other_nets.proofs.protected.add_marks.Given as goal

abbrev pub invariant-loop-i : goal.invariant-loop-i
invariant-loop-i l = MarkedSoFar 1 (marked_from l.more) l.initial.marks l.marks l.i
