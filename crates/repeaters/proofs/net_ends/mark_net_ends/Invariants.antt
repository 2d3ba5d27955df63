-- `mark_net_ends` meets its contract: the source, then each round one sink's terminal and approach.
use Rattle.routing_resources.specs.MarkLaws.{MarkedSoFar, rest_of}
use Rattle.ends.specs.Ends.{taps_in}
use Rattle.repeaters.specs.NetEnds.{tap_holds}
use Rattle.repeaters.proofs.net_ends.mark_net_ends.Given as goal

abbrev pub invariant-loop-tap : goal.invariant-loop-tap
invariant-loop-tap l = MarkedSoFar 1 (rest_of tap_holds (taps_in l.fn.taps)) l.initial.marks l.marks l.tap-index
