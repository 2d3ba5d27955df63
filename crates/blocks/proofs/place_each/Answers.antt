-- `place_each` meets its contract: after i rounds the first i blocks are laid out.
use mathlib.Core.Path.{◌≡◌}
use native.Mathlib.Omega.{arith}
use Rattle.room.specs.RoomLaws.{cell_in}
use Rattle.blocks.proofs.LayingLaws.{kept-none, kept_next}
use Rattle.blocks.proofs.place_each.Goals as goal

pub loop-i-init : goal.loop-i-init
loop-i-init c = rw (c.requires.kinds_value, c.requires.nodes_value) (kept-none _ _)

pub block_at-block-requires : goal.block_at-block-requires
block_at-block-requires c = (c.loop-i-test.true, c.requires.block_list.inside)

pub place_block-found-requires-clause-good : goal.place_block-found-requires-clause-good
place_block-found-requires-clause-good c =
    let kept = c.loop-i.invariant in c.requires.good

pub place_block-found-requires-clause-within : goal.place_block-found-requires-clause-within
place_block-found-requires-clause-within c =
    let kept = c.loop-i.invariant in rw c.block_at-block.ensures (c.requires.block_list.within _ c.loop-i-test.true)

pub place_block-found-requires-clause-kinds_len : goal.place_block-found-requires-clause-kinds_len
place_block-found-requires-clause-kinds_len c =
    let kept = c.loop-i.invariant in (kept.kinds-long, kept.nodes-long)

pub loop-i-preserved : goal.loop-i-preserved
loop-i-preserved c =
    let at = c.loop-i in
    let more = c.loop-i-test.true in
    let block = c.block_at-block in
    let inside = cell_in _ _ (c.requires.block_list.within at.i more) in
    let added = c.place_block-found.ensures in
    kept_next _ _ at.i _ _ _ at.invariant inside block.result block.ensures added

pub returns : goal.returns
returns c =
    let at = c.loop-i in
    let all : at.i ≡ c.args.part.count = omega (arith, c.loop-i.auto.i-end, c.loop-i-test.false) in
    rw all at at.invariant
