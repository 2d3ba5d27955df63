-- `open_goals` meets its contract. The loop's invariant: the joinable cells below are opened.
use Rattle.relaxed.specs.Labels.{OpenedBelow}
use Rattle.relaxed.proofs.opening.open_goals.Given as goal

abbrev pub invariant-loop-cell : goal.invariant-loop-cell
invariant-loop-cell l = OpenedBelow l.room l.joinable l.initial.classes l.classes l.cell
