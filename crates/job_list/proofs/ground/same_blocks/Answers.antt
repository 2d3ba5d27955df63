-- `same_blocks` meets its contract. The loop's invariant: what is left of both lists is compared as the whole lists are.
use native.Mathlib.Omega.{arith}
use Rattle.basics.specs.Tests.{test_fails, test-passes}
use Rattle.job_list.specs.Grounds.{same_none, same_next, same_not, same_end, differ-by-count}
use Rattle.job_list.proofs.ground.same_blocks.Goals as goal

pub returns-then-a-b : goal.returns-then-a-b
returns-then-a-b c = differ-by-count c.blocks_of-a.ensures c.blocks_of-b.ensures c.if-a-b.true

pub loop-i-init : goal.loop-i-init
loop-i-init c = same_none _ _

pub block_in-requires : goal.block_in-requires
block_in-requires c = (c.loop-i-test.true, c.blocks_of-a.ensures)

pub block_in-requires-in-loop-i : goal.block_in-requires-in-loop-i
block_in-requires-in-loop-i c = (omega (arith, c.loop-i-test.true, c.if-a-b.false), c.blocks_of-b.ensures)

pub returns-then-not-same_block : goal.returns-then-not-same_block
returns-then-not-same_block c = same_not c.blocks_of-a.ensures c.blocks_of-b.ensures c.if-a-b.false c.loop-i.invariant c.loop-i-test.true c.block_in.ensures c.block_in-in-loop-i.ensures (test_fails c.same_block.ensures c.if-not-same_block.true-raw)

pub loop-i-preserved : goal.loop-i-preserved
loop-i-preserved c = same_next c.blocks_of-a.ensures c.blocks_of-b.ensures c.if-a-b.false c.loop-i.invariant c.loop-i-test.true c.block_in.ensures c.block_in-in-loop-i.ensures (test-passes c.same_block.ensures c.if-not-same_block.false-raw)

pub returns : goal.returns
returns c = same_end c.blocks_of-a.ensures c.blocks_of-b.ensures c.if-a-b.false c.loop-i.invariant c.loop-i-test.false
