-- `block_at` meets its contract: record i begins i records behind the first.
use native.Mathlib.Omega.{arith}
use Rattle.job_sheet.specs.RecordLaws.{record_near, block_at}
use Rattle.job_sheet.proofs.block_at.Goals as goal

pub overflow_mul-part : goal.overflow_mul-part
overflow_mul-part c = omega (arith, record_near c.args.sheet.now c.args.part c.args.i c.requires.0 c.requires.1, c.well_formed)

pub overflow_add-part : goal.overflow_add-part
overflow_add-part c = omega (arith, record_near c.args.sheet.now c.args.part c.args.i c.requires.0 c.requires.1, c.well_formed)

pub block_from-requires : goal.block_from-requires
block_from-requires c = omega (arith, record_near c.args.sheet.now c.args.part c.args.i c.requires.0 c.requires.1, c.well_formed)

pub returns : goal.returns
returns c = block_at _ _ _ c.requires.0 _ c.block_from.ensures
