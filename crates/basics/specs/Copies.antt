-- The loop that copies a list's first numbers to a place of a slice, at any width.
use Rattle.std.specs.Prelude.{◌≡◌, refl, List, ◌++◌, ℕ, ◌+◌, ◌≤◌, ◌<◌, length, get_or, take, drop, set}
use Rattle.std.proofs.Common.{ap, ◌∙◌, zero-add, add-one, arith, length-set}
use Rattle.std.proofs.Math.Seq.{paste, paste-zero, paste-suc}

-- of so many numbers, the first i are copied, from the place `at` on
pub record Copied (from to₀ : List ℕ) (at count i : ℕ) (to : List ℕ) : Type 0 where
  pub within : i ≤ count
  pub is : to ≡ paste to₀ at from i
  pub kept : length to ≡ length to₀

pub copied_none : {from to₀ : List ℕ} {at count : ℕ} → Copied from to₀ at count 0 to₀
copied_none {from} {to₀} {at} = record { within = omega arith; is = paste-zero to₀ at from; kept = refl }

module _ (from to₀ : List ℕ) (at count : ℕ) (h : count ≤ length from) (k : at + count ≤ length to₀) where
  pub copied_next : {i : ℕ} {to : List ℕ} → Copied from to₀ at count i to → i < count → Copied from to₀ at count (i + 1) (set to (at + i) (get_or from i 0))
  copied_next {i} {to} C l = record {
    within = omega arith;
    is = ap (λ (s : List ℕ). set s (at + i) (get_or from i 0)) C.is ∙ paste-suc to₀ at from i 0 (omega arith) (omega arith) ∙ rw (add-one i) refl;
    kept = length-set to (at + i) (get_or from i 0) ∙ C.kept;
  }

  pub copied_all : {i : ℕ} {to : List ℕ} → Copied from to₀ at count i to → count ≤ i → to ≡ paste to₀ at from count
  copied_all {i} C l = let e : i ≡ count = omega (arith, C.within) in rw e at C.is

-- to the front
module _ (from to₀ : List ℕ) (count : ℕ) (h : count ≤ length from) (k : count ≤ length to₀) where
  pub front-next : {i : ℕ} {to : List ℕ} → Copied from to₀ 0 count i to → i < count → Copied from to₀ 0 count (i + 1) (set to i (get_or from i 0))
  front-next {i} C l = rw (zero-add i) at (copied_next from to₀ 0 count h (omega (arith, k)) C l)

  pub front-all : {i : ℕ} {to : List ℕ} → Copied from to₀ 0 count i to → count ≤ i → to ≡ take count from ++ drop count to₀
  front-all C l = rw (zero-add count) at (copied_all from to₀ 0 count h (omega (arith, k)) C l)
