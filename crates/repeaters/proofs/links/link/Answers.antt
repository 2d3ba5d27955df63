-- `link` meets its contract: it sets the one bit, if it was not set.
use native.Mathlib.Omega.{arith}
use mathlib.Core.Path.{◌∙◌, ap}
use Prim.Native.Nat.{ℕ, ◌^◌}
use native.Mathlib.Nat.{one-le-pow}
use Rattle.repeaters.specs.MaskLaws.{step_in, linked-kept, linked-now, value_fits}
use Rattle.repeaters.proofs.links.link.Goals as goal

pub bit_value-value-requires : goal.bit_value-value-requires
bit_value-value-requires c = rw c.step_index.ensures (step_in c.requires.step)

pub nonzero_div-mask : goal.nonzero_div-mask
nonzero_div-mask c = omega (arith, c.bit_value-value.ensures, one-le-pow c.step_index.result 2 (omega arith))

pub overflow_add-links : goal.overflow_add-links
overflow_add-links c = record { fits = omega (arith, value_fits c.requires.step _ (c.bit_value-value.ensures ∙ ap (λ (k : ℕ). 2 ^ k) c.step_index.ensures) c.if-mask-value-eq0.true c.requires.masked) }

pub returns-then-mask-value-eq0 : goal.returns-then-mask-value-eq0
returns-then-mask-value-eq0 c = linked-now c.requires.step _ (c.bit_value-value.ensures ∙ ap (λ (k : ℕ). 2 ^ k) c.step_index.ensures) c.if-mask-value-eq0.true

pub returns-else-mask-value-eq0 : goal.returns-else-mask-value-eq0
returns-else-mask-value-eq0 c = linked-kept c.requires.step _ (c.bit_value-value.ensures ∙ ap (λ (k : ℕ). 2 ^ k) c.step_index.ensures) c.if-mask-value-eq0.false
