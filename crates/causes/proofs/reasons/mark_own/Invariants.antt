-- `mark_own` meets its contract. The loop's invariant: the branches left, marked on the marks of now, make what all branches make.
use Rattle.causes.specs.CauseLaws.{OwnMarked}
use Rattle.causes.proofs.reasons.mark_own.Given as goal

abbrev pub invariant-loop-k : goal.invariant-loop-k
invariant-loop-k l = OwnMarked l.room l.lengths l.branches l.initial.marks l.marks l.from l.k
