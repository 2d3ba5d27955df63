-- `shut_goals` meets its contract. The loop's invariant: but for joinable cells from here on, and the cells above them, the bytes say what is seen.
use Rattle.relaxed.specs.Labels.{ShutBelow}
use Rattle.relaxed.proofs.opening.shut_goals.Given as goal

abbrev pub invariant-loop-cell : goal.invariant-loop-cell
invariant-loop-cell l = ShutBelow l.ground.mode l.ground.room l.kinds l.joinable l.blocked l.start l.cell l.classes
