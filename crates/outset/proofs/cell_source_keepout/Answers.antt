-- `cell_source_keepout` meets its contract: each round marks the keepout that one block asks for.
use Rattle.routing_resources.specs.MarkLaws.{marking-none, marking-on, marking-all}
use Rattle.job_sheet.specs.Places.{no_block}
use Rattle.outset.specs.Outset.{block_keepout}
use Rattle.outset.specs.OutsetLaws.{sized-still}
use Rattle.job_sheet.specs.RecordLaws.{blocks-long}
use Rattle.outset.proofs.cell_source_keepout.Goals as goal

pub loop-i-init : goal.loop-i-init
loop-i-init c = marking-none _ _ _

pub block_at-block-requires : goal.block_at-block-requires
block_at-block-requires c = (c.loop-i-test.true, c.requires.block_list.inside)

pub block_keepout-requires-clause-sized : goal.block_keepout-requires-clause-sized
block_keepout-requires-clause-sized c =
    sized-still c.requires.sized c.loop-i.invariant.long

pub block_keepout-requires-clause-within : goal.block_keepout-requires-clause-within
block_keepout-requires-clause-within c =
    rw c.block_at-block.ensures (c.requires.block_list.within _ c.loop-i-test.true)

pub loop-i-preserved : goal.loop-i-preserved
loop-i-preserved c = marking-on (block_keepout _ _ _) _ c.loop-i.invariant no_block _ c.block_at-block.ensures (rw (blocks-long _ _) c.loop-i-test.true) c.block_keepout.ensures

pub returns : goal.returns
returns c = marking-all (block_keepout _ _ _) _ c.loop-i.invariant (rw (blocks-long _ _) c.loop-i-test.false)
