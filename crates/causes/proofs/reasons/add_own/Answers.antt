-- `add_own` meets its contract: the branches' clearances are marked afresh, and the bit is added there.
use native.Mathlib.Omega.{arith}
use Rattle.basics.specs.Lists.{any}
use mathlib.Core.Path.{◌∙◌}
use lib.ListN.{length}
use Rattle.basics.specs.Zeros.{zeros-long}
use Rattle.branches.specs.Branches.{branches_of}
use Rattle.causes.specs.Causes.{cleared_by}
use Rattle.causes.specs.CauseLaws.{free-here, added-here}
use Rattle.causes.proofs.reasons.add_own.Goals as goal

pub mark_own-requires-clause-good : goal.mark_own-requires-clause-good
mark_own-requires-clause-good c = c.requires.good

pub mark_own-requires-clause-own_branches : goal.mark_own-requires-clause-own_branches
mark_own-requires-clause-own_branches c = c.requires.own_branches

pub mark_own-requires-clause-marks_len : goal.mark_own-requires-clause-marks_len
mark_own-requires-clause-marks_len c = zeros-long {n = length c.args.marks.now} c.clear.ensures ∙ c.requires.marks_len

pub add_bit-requires-clause-bit_free : goal.add_bit-requires-clause-bit_free
add_bit-requires-clause-bit_free c = free-here (λ v. any (cleared_by c.args.room v) (branches_of c.args.lengths c.args.branches.now)) c.args.marks.now c.requires.marks_len c.clear.ensures c.mark_own.ensures c.requires.bit_free

pub add_bit-requires-clause-bit_le_own_bit : goal.add_bit-requires-clause-bit_le_own_bit
add_bit-requires-clause-bit_le_own_bit c = omega arith

pub returns : goal.returns
returns c = added-here (λ v. any (cleared_by c.args.room v) (branches_of c.args.lengths c.args.branches.now)) c.args.marks.now c.requires.marks_len c.clear.ensures c.mark_own.ensures c.add_bit.ensures
