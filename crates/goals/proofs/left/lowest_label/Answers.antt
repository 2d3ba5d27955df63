-- `lowest_label` meets its contract. The loop's invariant: of the labels below, this one is the lowest.
use native.Mathlib.Omega.{arith}
use Rattle.goals.proofs.LabelledLaws.{least-none, least-inside, least-lower, least_other}
use Rattle.goals.proofs.left.lowest_label.Goals as goal
use Rattle.goals.proofs.left.lowest_label.Goals.{else-lower_label, then-lower_label}

pub loop-cell-init : goal.loop-cell-init
loop-cell-init c = least-none _

pub loop-cell-preserved : goal.loop-cell-preserved
loop-cell-preserved c =
    let round = c.loop-cell.invariant in
    let lower = c.lower_label.ensures in
    elim c.if-lower_label.branch [ then-lower_label w ↦ rw w.lowest-is (least-lower round lower w.if-lower_label.true) | else-lower_label w ↦ rw w.lowest-is (least_other round lower w.if-lower_label.false) ]

pub lower_label-requires-clause-lowest_in : goal.lower_label-requires-clause-lowest_in
lower_label-requires-clause-lowest_in c = least-inside _ c.loop-cell.invariant (omega arith)
