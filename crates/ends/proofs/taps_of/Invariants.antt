-- `taps_of` meets its contract: what is gathered so far stands before places that hold nothing.
use Rattle.ends.specs.EndLaws.{Tapped}
use Rattle.ends.proofs.taps_of.Given as goal

abbrev pub invariant-loop-k : goal.invariant-loop-k
invariant-loop-k l = Tapped l.room l.sinks l.taps l.k
