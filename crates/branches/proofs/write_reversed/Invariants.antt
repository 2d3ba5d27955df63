-- `write_reversed` meets its contract: each round writes the last cell that is left of the path.
use Rattle.branches.specs.WriteLaws.{Reversing}
use Rattle.branches.proofs.write_reversed.Given as goal

abbrev pub invariant-loop-i : goal.invariant-loop-i
invariant-loop-i l = Reversing l.path l.initial.out l.i l.out
