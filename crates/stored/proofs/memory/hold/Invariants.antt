-- `hold` meets its contract: the law of the testing loop.
use Rattle.stored.specs.Memory.{is_due}
use Rattle.stored.specs.MemoryLaws.{PassedSoFar}
use Rattle.stored.proofs.memory.hold.Given as goal

abbrev pub invariant-loop-i : goal.invariant-loop-i
invariant-loop-i g l = PassedSoFar (is_due g.N.PartialEq.eq g.N.Number.of l.kept l.expected) l.s l.i
