-- Lists after a store, and how many elements of a list are not 0.
use Rattle.std.specs.Prelude.{◌≡◌, refl, ◌≢◌, List, [], ◌∷◌, ℕ, zero, suc, ◌<◌, ltb, length, get_or, set, replicate}
use Rattle.std.proofs.Common.{ap, ◌∙◌, zero-le, suc-le-suc, arith, not-suc-le-zero, le_of_suc-le-suc, get_or-set_same, get_or-set_other, lt-ltb}
use Rattle.basics.specs.Tests.{ask_same}
use Rattle.basics.specs.Counts.{times}

pub length_zero : {X : Type 0} (l : List X) → length l ≡ 0 → l ≡ []
length_zero [] e = refl
length_zero (x ∷ l) e = absurd (omega arith)

-- an element that is not 0 stands in the list
pub in_reach : (l : List ℕ) (v : ℕ) → 0 < get_or l v 0 → v < length l
in_reach [] v h = omega arith
in_reach (x ∷ xs) zero h = suc-le-suc zero-le
in_reach (x ∷ xs) (suc v) h = suc-le-suc (in_reach xs v h)

-- an element after a store: the stored one, or as before
pub data AfterStore (l : List ℕ) (i x j : ℕ) : Type 0 where
  hit : j ≡ i → get_or (set l i x) j 0 ≡ x → AfterStore l i x j
  miss : j ≢ i → get_or (set l i x) j 0 ≡ get_or l j 0 → AfterStore l i x j

pub after : (l : List ℕ) (i x j : ℕ) → i < length l → AfterStore l i x j
after l i x j h = ask_same j i (λ e. hit e (ap (λ (k : ℕ). get_or (set l i x) k 0) e ∙ get_or-set_same l i x 0 h)) (λ n. miss n (get_or-set_other l i j x 0 n))

-- ---- how many elements are not 0

abbrev pub nonzeros : List ℕ → ℕ
nonzeros l = times (ltb 0) l

pub nonzeros-none : (n : ℕ) → nonzeros (replicate n 0) ≡ 0
unfolding times
nonzeros-none zero = refl
nonzeros-none (suc n) = omega (arith, nonzeros-none n)

-- a store where 0 stood
pub nonzeros-new : (l : List ℕ) (i x : ℕ) → i < length l → get_or l i 0 ≡ 0 → nonzeros (set l i (suc x)) ≡ suc (nonzeros l)
unfolding times
nonzeros-new [] i x h e = absurd (not-suc-le-zero h)
nonzeros-new (zero ∷ l) zero x h e = rw (lt-ltb 0 (suc x) (suc-le-suc zero-le)) (omega arith)
nonzeros-new (suc y ∷ l) zero x h e = omega arith
nonzeros-new (y ∷ l) (suc i) x h e = omega (arith, nonzeros-new l i x (le_of_suc-le-suc h) e)

-- a store where another element stood
pub nonzeros-old : (l : List ℕ) (i x : ℕ) → 0 < get_or l i 0 → nonzeros (set l i (suc x)) ≡ nonzeros l
unfolding times
nonzeros-old [] i x h = omega arith
nonzeros-old (zero ∷ l) zero x h = omega arith
nonzeros-old (suc y ∷ l) zero x h = rw (lt-ltb 0 (suc x) (suc-le-suc zero-le), lt-ltb 0 (suc y) h)
nonzeros-old (y ∷ l) (suc i) x h = omega (arith, nonzeros-old l i x h)
