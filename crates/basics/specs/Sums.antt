-- Sums over the numbers below a number.
use Rattle.std.specs.Prelude.{◌≡◌, refl, ◌≢◌, ℕ, zero, suc, ◌+◌, ◌*◌, ◌≤◌, ◌<◌, eqb}
use Rattle.std.proofs.Common.{zero-le, arith, suc-mul, zero-mul, eqb-true}
use Rattle.std.proofs.lemmas.Bool.{eqb-false}
use Rattle.basics.specs.Tests.{ask, either}

-- f 0 + .. + f (n - 1)
unfoldable pub sum_below : ℕ → (ℕ → ℕ) → ℕ
sum_below zero f = 0
sum_below (suc n) f = sum_below n f + f n

pub sum_le : (n : ℕ) (f g : ℕ → ℕ) → ((x : ℕ) → x < n → f x ≤ g x) → sum_below n f ≤ sum_below n g
unfolding sum_below
sum_le zero f g h = zero-le
sum_le (suc n) f g h = omega (arith, sum_le n f g (λ x l. h x (omega arith)), h n (omega arith))

sum_add : (n : ℕ) (f g : ℕ → ℕ) → sum_below n (λ x. f x + g x) ≡ sum_below n f + sum_below n g
unfolding sum_below
sum_add zero f g = refl
sum_add (suc n) f g = omega (arith, sum_add n f g)

pub sum_same : (n k : ℕ) → sum_below n (λ x. k) ≡ n * k
unfolding sum_below
sum_same zero k = rw zero-mul
sum_same (suc n) k = rw suc-mul (omega (arith, sum_same n k))

-- a at v, and 0 elsewhere
abbrev pub single : ℕ → ℕ → ℕ → ℕ
single v a x = either (eqb v x) a 0

pub data Single (v a x : ℕ) : Type 0 where
  there : v ≡ x → single v a x ≡ a → Single v a x
  elsewhere : v ≢ x → single v a x ≡ 0 → Single v a x

pub at-single : (v a x : ℕ) → Single v a x
at-single v a x = ask (eqb v x) (λ t. there (eqb-true v x t) (rw t)) (λ f. elsewhere (eqb-false v x f) (rw f))

pub single-most : (v a x : ℕ) → single v a x ≤ a
single-most v a x = elim (at-single v a x) [ there e q ↦ omega arith | elsewhere d q ↦ omega arith ]

single-past : (v a n : ℕ) → n ≤ v → sum_below n (single v a) ≡ 0
unfolding sum_below
single-past v a zero h = refl
single-past v a (suc n) h = go (at-single v a n) (single-past v a n (omega arith))
  where
    go : Single v a n → sum_below n (single v a) ≡ 0 → sum_below n (single v a) + single v a n ≡ 0
    go (there e q) ih = absurd (omega arith)
    go (elsewhere d q) ih = omega arith

total-single : (v a n : ℕ) → v < n → sum_below n (single v a) ≡ a
unfolding sum_below
total-single v a zero h = absurd (omega arith)
total-single v a (suc n) h = go (at-single v a n) (total-single v a n)
  where
    go : Single v a n → (v < n → sum_below n (single v a) ≡ a) → sum_below n (single v a) + single v a n ≡ a
    go (there e q) ih = omega (arith, single-past v a n (omega arith))
    go (elsewhere d q) ih = omega (arith, ih (omega arith))

-- g is at least f everywhere below n, and at least a more at v
pub sum_more : (n v a : ℕ) (f g : ℕ → ℕ) → v < n → ((x : ℕ) → x < n → f x + single v a x ≤ g x) → sum_below n f + a ≤ sum_below n g
sum_more n v a f g h k = omega (arith, sum_le n (λ x. f x + single v a x) g k, sum_add n f (single v a), total-single v a n h)

-- g is at least f everywhere, and more at v
pub sum_less : (n v : ℕ) (f g : ℕ → ℕ) → v < n → ((x : ℕ) → f x ≤ g x) → f v < g v → sum_below n f < sum_below n g
sum_less n v f g h most less =
    omega (
      arith,
      sum_more n v 1 f g h
          (λ x l. elim (at-single v 1 x) [ there e q ↦ let m : f x < g x = rw e at less in omega arith | elsewhere d q ↦ omega (arith, most x) ]),
    )
