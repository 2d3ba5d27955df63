-- `add_bit` meets its contract. The loop's invariant: the cells below v have the bit where they are marked, the others are as they were.
use native.Mathlib.Omega.{arith}
use Rattle.why.specs.ObstacleLaws.{turning_none, turning_next}
use Rattle.causes.specs.CauseLaws.{bits-added}
use Rattle.causes.proofs.bits.add_bit.Goals as goal

pub loop-v-init : goal.loop-v-init
loop-v-init c = turning_none _ _

pub with_bit-requires : goal.with_bit-requires
with_bit-requires c = let l = c.loop-v in omega (arith, l.invariant.behind l.v (omega arith), c.requires.bit_free.small l.v (omega arith), c.requires.bit_le_own_bit)

pub loop-v-preserved : goal.loop-v-preserved
loop-v-preserved c = turning_next _ _ c.loop-v.invariant (omega (arith, c.requires.bit_free.long)) _ c.with_bit.ensures

pub returns : goal.returns
returns c = bits-added c.requires.bit_free c.loop-v.invariant c.loop-v-test.false
