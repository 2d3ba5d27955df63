-- `take_out_ends` meets its contract: the source's terminal, then each round one sink's terminal and approach.
use native.Mathlib.Omega.{arith}
use Rattle.ends.specs.EndLaws.{taps-long, tap-is}
use Rattle.routing_resources.specs.MarkLaws.{marking-none, marking-on, marking-all}
use Rattle.ends.specs.Ends.{no_tap}
use Rattle.outset.specs.Outset.{tap_cell}
use Rattle.outset.specs.OutsetLaws.{out-ends}
use Rattle.outset.proofs.take_out_ends.Goals as goal

pub take_out-requires-clause-good : goal.take_out-requires-clause-good
take_out-requires-clause-good c = c.requires.good

pub take_out-requires-clause-cell_bound : goal.take_out-requires-clause-cell_bound
take_out-requires-clause-cell_bound c = c.requires.net_inside.source_in

pub take_out-requires-clause-marks_len : goal.take_out-requires-clause-marks_len
take_out-requires-clause-marks_len c = c.requires.marks_len

pub loop-i-init : goal.loop-i-init
loop-i-init c = marking-none _ _ _

pub offset_bounds-taps-i : goal.offset_bounds-taps-i
offset_bounds-taps-i c = omega (arith, c.loop-i-test.true, c.requires.net_inside.taps_in_lem.few)

pub bounds-taps-i : goal.bounds-taps-i
bounds-taps-i c = omega (arith, c.loop-i-test.true, c.requires.net_inside.taps_in_lem.few)

pub take_out_tap-requires-clause-good : goal.take_out_tap-requires-clause-good
take_out_tap-requires-clause-good c =
    let more = c.loop-i-test.true in c.requires.good

pub take_out_tap-requires-clause-terminal_bound : goal.take_out_tap-requires-clause-terminal_bound
take_out_tap-requires-clause-terminal_bound c =
    let more = c.loop-i-test.true in (c.requires.net_inside.taps_in_lem.terminal_in_lem _ more, c.requires.net_inside.taps_in_lem.approach_in _ more)

pub take_out_tap-requires-clause-marks_len : goal.take_out_tap-requires-clause-marks_len
take_out_tap-requires-clause-marks_len c =
    let more = c.loop-i-test.true in rw (c.loop-i.invariant.long, c.take_out.auto.marks) c.requires.marks_len

pub loop-i-preserved : goal.loop-i-preserved
loop-i-preserved c = marking-on (tap_cell _) _ c.loop-i.invariant no_tap _ (tap-is _ _ c.loop-i-test.true) (rw (taps-long c.requires.net_inside.taps_in_lem) c.loop-i-test.true) c.take_out_tap.ensures

pub returns : goal.returns
returns c = out-ends _ _ _ _ c.take_out.ensures (marking-all (tap_cell _) _ c.loop-i.invariant (rw (taps-long c.requires.net_inside.taps_in_lem) c.loop-i-test.false))
