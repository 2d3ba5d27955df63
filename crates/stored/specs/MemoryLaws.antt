-- Laws of what lent memory holds.
use Rattle.std.specs.Prelude.{◌≡◌, refl, Bool, true, false, ◌&&◌, List, ℕ, ◌+◌, ◌≤◌, ◌<◌, length, get_or, set, drop}
use Rattle.std.proofs.Common.{◌∙◌, not-suc-le-zero, add-one, arith, drop_of_length-le, length-set, get_or-set_same, get_or-set_other}
use Rattle.basics.specs.Tests.{ask_same}
use Rattle.basics.specs.Lists.{drop_next}
use Rattle.stored.specs.Memory.{rubbish, Rubbish, all_from}

-- ---- filling with rubbish: the first i numbers are rubbish

pub record Spoiled {A : Type 0} (of : ℕ → A) (s₀ : List A) (i : ℕ) (s : List A) : Type 0 where
  pub kept : length s ≡ length s₀
  pub front : (j : ℕ) → j < i → get_or s j (of 0) ≡ of (rubbish j)

module _ {A : Type 0} {of : ℕ → A} {s₀ : List A} where
  pub spoiled_none : Spoiled of s₀ 0 s₀
  spoiled_none = record { kept = refl; front = λ j h. absurd (not-suc-le-zero h) }

  module _ {i : ℕ} {s : List A} (S : Spoiled of s₀ i s) where
    pub spoiled_next : {x : A} → i < length s → x ≡ of (rubbish i) → Spoiled of s₀ (i + 1) (set s i x)
    spoiled_next {x} h e = record {
      kept = length-set s i x ∙ S.kept;
      front = λ j m. ask_same j i (λ q. rw q (get_or-set_same s i x (of 0) h ∙ e)) (λ d. get_or-set_other s i j x (of 0) d ∙ S.front j (omega (arith, d)));
    }

    pub spoiled_all : length s ≤ i → Rubbish of s
    spoiled_all h = λ j l. S.front j (omega arith)

-- ---- a test of each place: those before the i-th have passed

pub record PassedSoFar {A : Type 0} (p : ℕ → A → Bool) (l : List A) (i : ℕ) : Type 0 where
  pub rest : all_from p i (drop i l) ≡ all_from p 0 l

all-from : {A : Type 0} (p : ℕ → A → Bool) (l : List A) (i : ℕ) (d : A) → i < length l → all_from p i (drop i l) ≡ (p i (get_or l i d) && all_from p (i + 1) (drop (i + 1) l))
all-from p l i d h = rw (drop_next l i d h, add-one i) refl

module _ {A : Type 0} {p : ℕ → A → Bool} {l : List A} where
  pub passed_none : PassedSoFar p l 0
  passed_none = record { rest = refl }

  module _ {i : ℕ} (P : PassedSoFar p l i) where
    pub passed-next : (d : A) → i < length l → p i (get_or l i d) ≡ true → PassedSoFar p l (i + 1)
    passed-next d h e = record { rest = rw (all-from p l i d h, e) at P.rest }

    pub passed-failed : (d : A) → i < length l → p i (get_or l i d) ≡ false → false ≡ all_from p 0 l
    passed-failed d h e = rw (all-from p l i d h, e) at P.rest

    pub passed-all : length l ≤ i → true ≡ all_from p 0 l
    passed-all h = rw (drop_of_length-le l h) at P.rest
