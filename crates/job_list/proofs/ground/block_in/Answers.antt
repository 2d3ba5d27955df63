-- `block_in` meets its contract: record i begins i records behind the first.
use native.Mathlib.Omega.{arith}
use Rattle.job_sheet.specs.RecordLaws.{block_at}
use Rattle.job_list.specs.Grounds.{block-place}
use Rattle.job_list.proofs.ground.block_in.Goals as goal

pub overflow_mul-part : goal.overflow_mul-part
overflow_mul-part c = omega (arith, block-place c.requires.1 _ c.requires.0)

pub overflow_add-part : goal.overflow_add-part
overflow_add-part c = omega (arith, block-place c.requires.1 _ c.requires.0)

pub block_from-requires : goal.block_from-requires
block_from-requires c = omega (arith, block-place c.requires.1 _ c.requires.0)

pub returns : goal.returns
returns c = block_at _ _ _ c.requires.0 _ c.block_from.ensures
