-- `try_moves` meets its contract. The loop's invariant: the moves before are tried.
use Rattle.plain.specs.SweepingLaws.{MovesSweptBelow}
use Rattle.plain.proofs.sweep.try_moves.Given as goal

abbrev pub invariant-loop-m : goal.invariant-loop-m
invariant-loop-m l = MovesSweptBelow l.errand l.classes l.from l.initial.known l.m-index l.changed l.known l.previous
