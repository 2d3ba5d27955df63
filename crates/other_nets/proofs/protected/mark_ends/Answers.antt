-- `mark_ends` meets its contract: the source's terminal, then each round one sink's terminal and approach.
use Rattle.std.proofs.Common.{refl, ◌∙◌, ◌<◌}
use Rattle.ends.specs.Ends.{no_tap}
use Rattle.ends.specs.EndLaws.{taps-long, tap-is}
use Rattle.routing_resources.specs.MarkLaws.{marking-on, marking-all}
use Rattle.other_nets.specs.Others.{tap_protects}
use Rattle.other_nets.specs.OtherLaws.{ends-marked}
use Rattle.other_nets.proofs.protected.mark_ends.Goals as goal

pub mark_tap-requires-clause-terminal_bound : goal.mark_tap-requires-clause-terminal_bound
mark_tap-requires-clause-terminal_bound c =
    let inside = c.requires.net_inside.taps_in_lem in
    let k : c.loop-tap.tap-index < c.args.taps.count = rw (taps-long inside) at c.loop-tap-test.true in
    rw (← tap-is c.args.taps c.loop-tap.tap-index k) (inside.terminal_in_lem _ k, inside.approach_in _ k)

pub mark_tap-requires-clause-marks_len : goal.mark_tap-requires-clause-marks_len
mark_tap-requires-clause-marks_len c = c.loop-tap.invariant.long ∙ c.mark_near.auto.marks ∙ c.requires.marks_len

pub loop-tap-preserved : goal.loop-tap-preserved
loop-tap-preserved c = marking-on (tap_protects _) _ c.loop-tap.invariant no_tap _ refl c.loop-tap-test.true c.mark_tap.ensures

pub returns : goal.returns
returns c = ends-marked _ _ _ _ c.mark_near.ensures (marking-all (tap_protects _) _ c.loop-tap.invariant c.loop-tap-test.false)
