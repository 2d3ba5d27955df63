-- `add_keepouts` meets its contract: the conductors' keepouts are marked afresh, and the bit is added there.
use native.Mathlib.Omega.{arith}
use Rattle.basics.specs.Lists.{any}
use Rattle.job_sheet.specs.Places.{positions_in}
use Rattle.causes.specs.Causes.{beside_conductor}
use Rattle.causes.specs.CauseLaws.{free-here, added-here}
use Rattle.causes.proofs.reasons.add_keepouts.Goals as goal

pub add_bit-requires-clause-bit_free : goal.add_bit-requires-clause-bit_free
add_bit-requires-clause-bit_free c = free-here (λ v. any (beside_conductor c.args.room v) (positions_in c.args.sheet.now c.args.part)) c.args.marks.now c.requires.positions_listed.long c.clear.ensures c.mark_keepouts.ensures c.requires.bit_free

pub add_bit-requires-clause-bit_le_own_bit : goal.add_bit-requires-clause-bit_le_own_bit
add_bit-requires-clause-bit_le_own_bit c = omega arith

pub returns : goal.returns
returns c = added-here (λ v. any (beside_conductor c.args.room v) (positions_in c.args.sheet.now c.args.part)) c.args.marks.now c.requires.positions_listed.long c.clear.ensures c.mark_keepouts.ensures c.add_bit.ensures
