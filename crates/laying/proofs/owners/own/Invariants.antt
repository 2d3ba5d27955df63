-- `own` meets its contract. The loop's invariant: the cells left, owned from now on, make what all make from the start.
use Prim.Native.Nat.{◌+◌}
use Rattle.laying.specs.OwnerLaws.{Owning}
use Rattle.laying.proofs.owners.own.Given as goal

abbrev pub invariant-loop-cell : goal.invariant-loop-cell
invariant-loop-cell l = Owning (l.number + 1) l.occupied l.initial.owners l.owners l.cell
