-- `powered_at` meets its contract. The loop's invariant: the sinks left come to the same as all.
use Rattle.ends.specs.Ends.{taps_in}
use Rattle.laying.specs.Bearing.{powers}
use Rattle.laying.specs.BearingLaws.{Asked}
use Rattle.laying.proofs.bearing.powered_at.Given as goal

abbrev pub invariant-loop-tap : goal.invariant-loop-tap
invariant-loop-tap l = Asked (powers l.cell) (taps_in l.fn.taps) l.tap-index
