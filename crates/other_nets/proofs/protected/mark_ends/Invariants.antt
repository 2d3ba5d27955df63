-- `mark_ends` meets its contract: the source's terminal, then each round one sink's terminal and approach.
use Rattle.routing_resources.specs.MarkLaws.{MarkedSoFar, rest_of}
use Rattle.ends.specs.Ends.{taps_in}
use Rattle.other_nets.specs.Others.{tap_protects}
use Rattle.other_nets.proofs.protected.mark_ends.Given as goal

abbrev pub invariant-loop-tap : goal.invariant-loop-tap
invariant-loop-tap l = MarkedSoFar 1 (rest_of (tap_protects l.room) (taps_in l.fn.taps)) l.initial.marks l.marks l.tap-index
