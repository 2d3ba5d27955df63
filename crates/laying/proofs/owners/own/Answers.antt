-- `own` meets its contract. The loop's invariant: the cells left, owned from now on, make what all make from the start.
use native.Mathlib.Omega.{arith}
use Rattle.laying.specs.OwnerLaws.{owning_first, owning_met, owning_missed, owning_all}
use Rattle.laying.proofs.owners.own.Goals as goal
use Rattle.laying.proofs.owners.own.Goals.{then-mark-eq-MARKED, else-mark-eq-MARKED}

pub loop-cell-init : goal.loop-cell-init
loop-cell-init c = owning_first _ c.args.occupied.now _

pub bounds-owners-cell : goal.bounds-owners-cell
bounds-owners-cell c = omega (arith, c.loop-cell.invariant.long, c.requires.owners_len, c.loop-cell-test.true)

pub returns : goal.returns
returns c = owning_all _ c.args.occupied.now _ _ c.loop-cell.invariant c.requires.owners_len c.loop-cell-test.false

pub loop-cell-preserved : goal.loop-cell-preserved
loop-cell-preserved c =
    elim c.if-mark-eq-MARKED.branch [ then-mark-eq-MARKED w ↦ owning_met c.args.occupied.now _ c.loop-cell.invariant w.if-mark-eq-MARKED.true w.owners-is | else-mark-eq-MARKED w ↦ rw w.owners-is (owning_missed c.args.occupied.now _ c.loop-cell.invariant w.if-mark-eq-MARKED.false) ]
