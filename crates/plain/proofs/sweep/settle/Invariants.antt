-- `settle` meets its contract. The loop's invariant: ways of as many steps as sweeps were made are beaten, and the last sweep changed something, or
-- nothing gets cheaper. The sum of known costs falls.
use Rattle.plain.specs.SweepingLaws.{SweepsMade, sum_left}
use Rattle.plain.proofs.sweep.settle.Given as goal

abbrev pub invariant-loop-changed : goal.invariant-loop-changed
invariant-loop-changed l = SweepsMade l.errand l.classes l.sweeps l.changed l.known l.previous

abbrev pub decreases-loop-changed : goal.decreases-loop-changed
decreases-loop-changed l = sum_left l.errand l.known l.changed
