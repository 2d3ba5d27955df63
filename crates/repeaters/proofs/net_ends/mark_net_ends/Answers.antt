-- `mark_net_ends` meets its contract: the source, then each round one sink's terminal and approach.
use Rattle.std.proofs.Common.{refl}
use Rattle.routing_resources.specs.MarkLaws.{marking-on, marking-all}
use Rattle.ends.specs.Ends.{no_tap}
use Rattle.repeaters.specs.NetEnds.{tap_holds}
use Rattle.repeaters.specs.NetEndLaws.{ends-marked}
use Rattle.repeaters.proofs.net_ends.mark_net_ends.Goals as goal

pub loop-tap-preserved : goal.loop-tap-preserved
loop-tap-preserved c = marking-on tap_holds _ c.loop-tap.invariant no_tap _ refl c.loop-tap-test.true c.mark_tap.ensures

pub returns : goal.returns
returns c = ends-marked c.requires c.mark.ensures (marking-all tap_holds _ c.loop-tap.invariant c.loop-tap-test.false)
