-- `take_out_ends` meets its contract: the source's terminal, then each round one sink's terminal and approach.
use Rattle.routing_resources.specs.MarkLaws.{MarkedSoFar, rest_of}
use Rattle.ends.specs.Ends.{taps_in}
use Rattle.outset.specs.Outset.{tap_cell}
use Rattle.outset.proofs.take_out_ends.Given as goal

abbrev pub invariant-loop-i : goal.invariant-loop-i
invariant-loop-i l = MarkedSoFar 0 (rest_of (tap_cell l.room) (taps_in l.taps)) l.initial.marks l.marks l.i
