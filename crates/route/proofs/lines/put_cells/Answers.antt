-- `put_cells` meets its contract: what is put, and what is left to put, are the whole.
use borrow.Author.Rules.{rules}
use Rattle.route.specs.LineLaws.{cell-fits, cells-on, cells-done}
use Rattle.route.proofs.lines.put_cells.Goals as goal

pub put_number-end-requires : goal.put_number-end-requires
put_number-end-requires c = cell-fits c.args.cells.now c.loop-cell.cell-index c.loop-cell.invariant (search rules) (search rules) c.requires

pub loop-cell-preserved : goal.loop-cell-preserved
loop-cell-preserved c = cells-on c.args.cells.now c.loop-cell.cell-index c.loop-cell.invariant (search rules) (search rules) c.put_number-end.ensures

pub returns : goal.returns
returns c = cells-done c.args.cells.now c.loop-cell.cell-index c.loop-cell.invariant (search rules)
