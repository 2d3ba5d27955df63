-- `first_due` meets its contract: the source first, then the sinks one by one.
use Rattle.ends.specs.EndLaws.{NoneDue}
use Rattle.ends.proofs.first_due.Given as goal

abbrev pub invariant-loop-k : goal.invariant-loop-k
invariant-loop-k l = NoneDue l.room l.due l.fn.sinks l.k
