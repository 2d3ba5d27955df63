-- `overlap` meets its contract. The loop's invariant: no cell so far is met.
use Rattle.laying.specs.OwnerLaws.{NoneMet}
use Rattle.laying.proofs.owners.overlap.Given as goal

abbrev pub invariant-loop-cell : goal.invariant-loop-cell
invariant-loop-cell l = NoneMet l.occupied l.owners l.cell
