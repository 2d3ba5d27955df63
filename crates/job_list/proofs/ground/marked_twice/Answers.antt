-- `marked_twice` meets its contract. The loop's invariant: the blocks so far have cells of their own, all marked, and what is left decides.
use native.Mathlib.Omega.{arith}
use mathlib.Core.Path.{refl}
use lib.ListN.{length, length-set}
use Rattle.job_list.specs.Grounds.{apart-start, apart_next, apart-twice, apart-end, block_within, block_cell_in}
use Rattle.job_list.proofs.ground.marked_twice.Goals as goal

pub loop-i-init : goal.loop-i-init
loop-i-init c = (refl, apart-start _ _ (length c.args.seen.now) c.requires.seen_value)

pub block_at-block-requires : goal.block_at-block-requires
block_at-block-requires c = (c.loop-i-test.true, c.requires.block_list.inside)

pub cell-cell-requires-clause-good : goal.cell-cell-requires-clause-good
cell-cell-requires-clause-good c = c.requires.good

pub cell-cell-requires-clause-within : goal.cell-cell-requires-clause-within
cell-cell-requires-clause-within c = block_within c.requires.block_list c.loop-i-test.true c.block_at-block.ensures

pub bounds-seen-cell : goal.bounds-seen-cell
bounds-seen-cell c = omega (arith, block_cell_in c.requires.block_list c.loop-i-test.true c.block_at-block.ensures c.cell-cell.ensures, c.requires.room_in_bounds, c.loop-i.invariant.0)

pub returns-then-seen-cell-ne0 : goal.returns-then-seen-cell-ne0
returns-then-seen-cell-ne0 c = apart-twice c.args.sheet.now c.args.part c.loop-i.invariant.1 c.loop-i-test.true c.block_at-block.ensures c.cell-cell.ensures c.if-seen-cell-ne0.true

pub bounds-seen-cell-in-loop-i : goal.bounds-seen-cell-in-loop-i
bounds-seen-cell-in-loop-i c = omega (arith, block_cell_in c.requires.block_list c.loop-i-test.true c.block_at-block.ensures c.cell-cell.ensures, c.requires.room_in_bounds, c.loop-i.invariant.0)

pub loop-i-preserved : goal.loop-i-preserved
loop-i-preserved c = (simp length-set c.loop-i.invariant.0, apart_next c.args.sheet.now c.args.part c.loop-i.invariant.1 c.loop-i-test.true c.block_at-block.ensures c.cell-cell.ensures (omega (arith, block_cell_in c.requires.block_list c.loop-i-test.true c.block_at-block.ensures c.cell-cell.ensures, c.requires.room_in_bounds, c.loop-i.invariant.0)) c.if-seen-cell-ne0.false)

pub returns : goal.returns
returns c = apart-end c.args.sheet.now c.args.part c.loop-i.invariant.1 c.loop-i-test.false
