-- `sweep` meets its contract. The loop's invariant: the cells below `cell` are swept.
use Rattle.plain.specs.SweepingLaws.{together, cells-next}
use Rattle.plain.proofs.sweep.sweep.Goals as goal

pub loop-cell-preserved : goal.loop-cell-preserved
loop-cell-preserved c = cells-next _ (together c.loop-cell.changed c.try_moves-changed.result) c.loop-cell.invariant c.try_moves-changed.ensures
