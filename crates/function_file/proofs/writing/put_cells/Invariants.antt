-- `put_cells` meets its contract: what is written, and what is left to write, are the whole.
use Rattle.function_file.specs.WriteLaws.{PutCells}
use Rattle.function_file.proofs.writing.put_cells.Given as goal

abbrev pub invariant-loop-cell : goal.invariant-loop-cell
invariant-loop-cell l = PutCells l.room l.kinds l.facings l.initial.text l.text l.end l.cell
