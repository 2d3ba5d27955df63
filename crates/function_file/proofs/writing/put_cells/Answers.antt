-- `put_cells` meets its contract: what is written, and what is left to write, are the whole.
use native.Mathlib.Omega.{arith}
use Rattle.function_file.specs.WriteLaws.{cells_begun, cells-on, cells-done, known-here}
use Rattle.function_file.proofs.writing.put_cells.Goals as goal

pub loop-cell-init : goal.loop-cell-init
loop-cell-init c = cells_begun c.requires.facings_value

pub put_block-end-requires-clause-good : goal.put_block-end-requires-clause-good
put_block-end-requires-clause-good c = let I = c.loop-cell.invariant in let few = c.requires.good.few in c.requires.good

pub put_block-end-requires-clause-at_bound : goal.put_block-end-requires-clause-at_bound
put_block-end-requires-clause-at_bound c = let I = c.loop-cell.invariant in let few = c.requires.good.few in (omega (arith, I.near, few), omega arith, known-here c.args.kinds.now c.args.facings.now c.loop-cell.cell c.loop-cell-test.true I.known)

pub loop-cell-preserved : goal.loop-cell-preserved
loop-cell-preserved c = cells-on c.loop-cell.invariant c.loop-cell-test.true c.put_block-end.ensures

pub returns : goal.returns
returns c = cells-done c.loop-cell.invariant c.loop-cell-test.false
