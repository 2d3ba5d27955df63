-- `lowest_label` meets its contract. The loop's invariant: of the labels below, this one is the lowest.
use Rattle.goals.specs.Labelled.{LeastLabel}
use Rattle.goals.proofs.left.lowest_label.Given as goal

abbrev pub invariant-loop-cell : goal.invariant-loop-cell
invariant-loop-cell l = LeastLabel l.labels l.cell l.lowest
