-- `cell_agrees` meets its contract. The loop's invariant: the moves below k agree.
use Rattle.relaxed.specs.Labels.{MovesAgree}
use Rattle.relaxed.proofs.check.Labelled.cell_agrees.Given as goal

abbrev pub invariant-loop-k : goal.invariant-loop-k
invariant-loop-k l = MovesAgree l.self.room l.self.config l.self.classes.now l.self.labels.now l.at l.label l.k
