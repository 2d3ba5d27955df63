-- `labels_agree` meets its contract. The loop's invariant: the cells below agree.
use Rattle.relaxed.specs.Labels.{CellsAgree}
use Rattle.relaxed.proofs.check.Labelled.labels_agree.Given as goal

abbrev pub invariant-loop-cell : goal.invariant-loop-cell
invariant-loop-cell l = CellsAgree l.self.room l.self.config l.self.classes.now l.self.labels.now l.cell
