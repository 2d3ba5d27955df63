-- `add_positions` meets its contract: the list's cells are marked afresh, and the bit is added there.
use Rattle.basics.specs.Lists.{any}
use Rattle.job_sheet.specs.Places.{positions_in}
use Rattle.outset.specs.Outset.{stands_at}
use Rattle.causes.specs.CauseLaws.{free-here, added-here}
use Rattle.causes.proofs.reasons.add_positions.Goals as goal

pub add_bit-requires-clause-bit_free : goal.add_bit-requires-clause-bit_free
add_bit-requires-clause-bit_free c = free-here (λ v. any (stands_at c.args.room v) (positions_in c.args.sheet.now c.args.part)) c.args.marks.now c.requires.positions_listed.long c.clear.ensures c.mark_positions.ensures c.requires.bit_free

pub add_bit-requires-clause-bit_le_own_bit : goal.add_bit-requires-clause-bit_le_own_bit
add_bit-requires-clause-bit_le_own_bit c = c.requires.bit_le_own_bit

pub returns : goal.returns
returns c = added-here (λ v. any (stands_at c.args.room v) (positions_in c.args.sheet.now c.args.part)) c.args.marks.now c.requires.positions_listed.long c.clear.ensures c.mark_positions.ensures c.add_bit.ensures
