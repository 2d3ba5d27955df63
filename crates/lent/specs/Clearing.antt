-- The loop that clears a slice, at any width: the first i numbers are 0, the others as they were.
use Rattle.std.specs.Prelude.{◌≡◌, refl, List, ◌++◌, ℕ, ◌+◌, ◌≤◌, ◌<◌, length, drop, set, replicate}
use Rattle.std.proofs.Common.{ap, ◌∙◌, append-nil, arith, length-set}
use Rattle.std.proofs.Math.Seq.{drop-length}
use Rattle.std.proofs.lemmas.List.Edits.{fill_more}

pub record FrontCleared (s₀ : List ℕ) (i : ℕ) (s : List ℕ) : Type 0 where
  pub is : s ≡ replicate i 0 ++ drop i s₀
  pub within : i ≤ length s₀
  pub kept : length s ≡ length s₀

module _ {s₀ : List ℕ} where
  pub cleared-none : FrontCleared s₀ 0 s₀
  cleared-none = record { is = refl; within = omega arith; kept = refl }

  module _ {i : ℕ} {s : List ℕ} (C : FrontCleared s₀ i s) where
    pub cleared-next : i < length s₀ → FrontCleared s₀ (i + 1) (set s i 0)
    cleared-next h = record {
      is = ap (λ (l : List ℕ). set l i 0) C.is ∙ fill_more i 0 s₀ h;
      within = omega arith;
      kept = length-set s i 0 ∙ C.kept;
    }

    pub cleared-all : length s₀ ≤ i → s ≡ replicate (length s₀) 0
    cleared-all h = let e : i ≡ length s₀ = omega (arith, C.within) in C.is ∙ rw (e, drop-length s₀, append-nil)
