-- `taps_of` meets its contract: what is gathered so far stands before places that hold nothing.
use Rattle.ends.specs.EndLaws.{tap-on, tap-done}
use Rattle.ends.proofs.taps_of.Goals as goal

pub loop-k-preserved : goal.loop-k-preserved
loop-k-preserved c = tap-on c.requires.sink_list c.loop-k.invariant c.loop-k-test.true _ c.tap_of.ensures

pub returns : goal.returns
returns c = tap-done c.requires.sink_list c.loop-k.invariant c.loop-k-test.false
