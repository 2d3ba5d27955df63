-- `lay_sinks` meets its contract. The loop's invariant: the sinks left make of the room of now what all make of it at the start.
use Rattle.laying.specs.PassingLaws.{SunkSoFar}
use Rattle.laying.proofs.powering.lay_sinks.Given as goal

abbrev pub invariant-loop-tap : goal.invariant-loop-tap
invariant-loop-tap l = SunkSoFar l.room l.fn.taps l.initial.kinds l.initial.facings l.kinds l.facings l.tap-index
