-- `spoil` meets its contract: the law of the spoiling loop.
use Rattle.stored.specs.MemoryLaws.{Spoiled}
use Rattle.stored.proofs.memory.spoil.Given as goal

abbrev pub invariant-loop-i : goal.invariant-loop-i
invariant-loop-i g l = Spoiled g.N.Number.of l.initial.s l.i l.s
