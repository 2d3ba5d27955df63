-- `place_facings` meets its contract: the blocks from the one at hand on have their facings in their cells.
use Rattle.std.proofs.Common.{sym, arith}
use Rattle.laid_nets.specs.FacingLaws.{facings-first, facings-long, facings-next, facings-all}
use Rattle.job_sheet.specs.RecordLaws.{blocks-long}
use Rattle.room.specs.RoomLaws.{cell_in}
use Rattle.laid_nets.proofs.place_facings.Goals as goal

pub loop-i-init : goal.loop-i-init
loop-i-init c = (omega arith, facings-first _ _ c.requires.facings_value (sym (blocks-long _ _)))

pub block_at-block-requires : goal.block_at-block-requires
block_at-block-requires c = (omega (arith, c.loop-i.invariant.0, c.loop-i-test.true), c.requires.block_list.inside)

pub cell-requires-clause-good : goal.cell-requires-clause-good
cell-requires-clause-good c = c.requires.good

pub cell-requires-clause-within : goal.cell-requires-clause-within
cell-requires-clause-within c = rw c.block_at-block.ensures (c.requires.block_list.within _ (omega (arith, c.loop-i.invariant.0, c.loop-i-test.true)))

pub bounds-facings-cell : goal.bounds-facings-cell
bounds-facings-cell c =
    let block = c.block_at-block in
    let inside = cell_in c.args.room block.result.at (rw block.ensures (c.requires.block_list.within _ (omega (arith, c.loop-i.invariant.0, c.loop-i-test.true)))) in
    omega (arith, inside, c.cell.ensures, facings-long _ _ c.loop-i.invariant.1)

pub loop-i-preserved : goal.loop-i-preserved
loop-i-preserved c =
    let block = c.block_at-block in
    let inside = cell_in c.args.room block.result.at (rw block.ensures (c.requires.block_list.within _ (omega (arith, c.loop-i.invariant.0, c.loop-i-test.true)))) in
    (omega (arith, c.loop-i.invariant.0), rw c.cell.ensures (facings-next _ _ c.loop-i.invariant.1 (omega (arith, c.loop-i-test.true)) block.result block.ensures inside))

pub returns : goal.returns
returns c = facings-all _ _ c.loop-i.invariant.1 (omega arith)
