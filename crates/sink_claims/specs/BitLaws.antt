-- Seven bits in one byte: each is set exactly where its test passes.
use Rattle.std.specs.Prelude.{◌≡◌, refl, Bool, true, false, not, ◌&&◌, ℕ, ◌+◌, ◌*◌, ◌/◌, ◌%◌, ◌<◌, eqb}
use Rattle.std.proofs.Common.{ap, ◌∙◌, suc-le-suc, arith}
use Rattle.std.proofs.Math.Arith.{digits_div, digits_mod}
use Rattle.basics.specs.Tests.{either}
use Rattle.basics.specs.Counts.{bit, bit-small}
use Rattle.causes.specs.Causes.{bit_for}
use Rattle.sink_claims.specs.Statements.{has_bit}

weighs : (weight : ℕ) (b : Bool) → bit_for weight b ≡ weight * bit b
weighs weight true = omega arith
weighs weight false = omega arith

is-bit : (b : Bool) → eqb (bit b) 1 ≡ b
is-bit true = refl
is-bit false = refl

-- the bit of this weight, by what is above it and what is below
bit_at : (byte weight above below : ℕ) (b : Bool) → below < weight → byte ≡ (above * 2 + bit b) * weight + below → has_bit byte weight ≡ b
bit_at byte weight above below b h e =
    ap (λ (n : ℕ). eqb (n / weight % 2) 1) e
    ∙ ap (λ (n : ℕ). eqb (n % 2) 1) (digits_div (above * 2 + bit b) h)
    ∙ ap (λ (n : ℕ). eqb n 1) (digits_mod above (suc-le-suc (bit-small b)))
    ∙ is-bit b

-- the first six, and all seven
abbrev pub six_bits : Bool → Bool → Bool → Bool → Bool → Bool → ℕ
six_bits a b c d e f = bit_for 1 a + bit_for 2 b + bit_for 4 c + bit_for 8 d + bit_for 16 e + bit_for 32 f

abbrev pub seven_bits : Bool → Bool → Bool → Bool → Bool → Bool → Bool → ℕ
seven_bits a b c d e f g = six_bits a b c d e f + bit_for 64 g

module _ (a b c d e f g : Bool) where
  -- from the lowest on
  abbrev sum : ℕ
  sum = bit a + 2 * bit b + 4 * bit c + 8 * bit d + 16 * bit e + 32 * bit f + 64 * bit g

  is_sum : seven_bits a b c d e f g ≡ sum
  is_sum = omega (arith, weighs 1 a, weighs 2 b, weighs 4 c, weighs 8 d, weighs 16 e, weighs 32 f, weighs 64 g)

  pub bit_1 : has_bit (seven_bits a b c d e f g) 1 ≡ a
  bit_1 = bit_at (seven_bits a b c d e f g) 1 (bit b + 2 * bit c + 4 * bit d + 8 * bit e + 16 * bit f + 32 * bit g) 0 a (omega arith) (omega (arith, is_sum))

  pub bit_2 : has_bit (seven_bits a b c d e f g) 2 ≡ b
  bit_2 = bit_at (seven_bits a b c d e f g) 2 (bit c + 2 * bit d + 4 * bit e + 8 * bit f + 16 * bit g) (bit a) b (omega (arith, bit-small a)) (omega (arith, is_sum))

  pub bit_4 : has_bit (seven_bits a b c d e f g) 4 ≡ c
  bit_4 = bit_at (seven_bits a b c d e f g) 4 (bit d + 2 * bit e + 4 * bit f + 8 * bit g) (bit a + 2 * bit b) c (omega (arith, bit-small a, bit-small b)) (omega (arith, is_sum))

  pub bit_8 : has_bit (seven_bits a b c d e f g) 8 ≡ d
  bit_8 = bit_at (seven_bits a b c d e f g) 8 (bit e + 2 * bit f + 4 * bit g) (bit a + 2 * bit b + 4 * bit c) d (omega (arith, bit-small a, bit-small b, bit-small c)) (omega (arith, is_sum))

  pub bit_16 : has_bit (seven_bits a b c d e f g) 16 ≡ e
  bit_16 =
      bit_at (seven_bits a b c d e f g) 16 (bit f + 2 * bit g) (bit a + 2 * bit b + 4 * bit c + 8 * bit d) e (omega (arith, bit-small a, bit-small b, bit-small c, bit-small d)) (omega (arith, is_sum))

  pub bit_32 : has_bit (seven_bits a b c d e f g) 32 ≡ f
  bit_32 =
      bit_at (seven_bits a b c d e f g) 32 (bit g) (bit a + 2 * bit b + 4 * bit c + 8 * bit d + 16 * bit e) f
      (omega (arith, bit-small a, bit-small b, bit-small c, bit-small d, bit-small e)) (omega (arith, is_sum))

  pub bit_64 : has_bit (seven_bits a b c d e f g) 64 ≡ g
  bit_64 =
      bit_at (seven_bits a b c d e f g) 64 0 (bit a + 2 * bit b + 4 * bit c + 8 * bit d + 16 * bit e + 32 * bit f) g
      (omega (arith, bit-small a, bit-small b, bit-small c, bit-small d, bit-small e, bit-small f)) (omega (arith, is_sum))

  pub seven_small : seven_bits a b c d e f g < 128
  seven_small = omega (arith, is_sum, bit-small a, bit-small b, bit-small c, bit-small d, bit-small e, bit-small f, bit-small g)

-- the first six taken out
pub six-out : (out a b c d e f : Bool) → either out 0 (six_bits a b c d e f) ≡ six_bits (not out && a) (not out && b) (not out && c) (not out && d) (not out && e) (not out && f)
six-out true a b c d e f = refl
six-out false a b c d e f = refl
