-- `sweep` meets its contract. The loop's invariant: the cells below `cell` are swept.
use Rattle.plain.specs.SweepingLaws.{CellsSweptBelow}
use Rattle.plain.proofs.sweep.sweep.Given as goal

abbrev pub invariant-loop-cell : goal.invariant-loop-cell
invariant-loop-cell l = CellsSweptBelow l.errand l.classes l.initial.known l.cell l.changed l.known l.previous
