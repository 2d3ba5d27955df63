-- `write_labels` meets its contract. The loop's invariant: the cells below have their labels.
use Rattle.goals.specs.Labelled.{LabelsOf, bound_of}
use Rattle.goals.proofs.left.write_labels.Given as goal

abbrev pub invariant-loop-cell : goal.invariant-loop-cell
invariant-loop-cell l = LabelsOf l.view.config l.view.room l.view.from l.low l.joinable (bound_of l.labelled l.known l.view.config l.view.room l.view.from) l.labels l.cell
