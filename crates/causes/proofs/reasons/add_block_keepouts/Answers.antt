-- `add_block_keepouts` meets its contract: the blocks' keepouts are marked afresh, and the bit is added there.
use native.Mathlib.Omega.{arith}
use Rattle.basics.specs.Lists.{any}
use Rattle.job_sheet.specs.Places.{blocks_in}
use Rattle.outset.specs.Outset.{block_keepout}
use Rattle.causes.specs.CauseLaws.{free-here, added-here}
use Rattle.causes.proofs.reasons.add_block_keepouts.Goals as goal

pub add_bit-requires-clause-bit_free : goal.add_bit-requires-clause-bit_free
add_bit-requires-clause-bit_free c = free-here (λ v. any (block_keepout c.args.room c.args.kinds.now c.args.nodes.now v) (blocks_in c.args.sheet.now c.args.part)) c.args.marks.now c.requires.sized.long c.clear.ensures c.cell_source_keepout.ensures c.requires.bit_free

pub add_bit-requires-clause-bit_le_own_bit : goal.add_bit-requires-clause-bit_le_own_bit
add_bit-requires-clause-bit_le_own_bit c = omega arith

pub returns : goal.returns
returns c = added-here (λ v. any (block_keepout c.args.room c.args.kinds.now c.args.nodes.now v) (blocks_in c.args.sheet.now c.args.part)) c.args.marks.now c.requires.sized.long c.clear.ensures c.cell_source_keepout.ensures c.add_bit.ensures
