-- Loops over a list: what one member after another makes of a value, and what its pairs of neighbours come to.
use Rattle.std.specs.Prelude.{◌≡◌, refl, ℕ, ◌+◌, ◌≤◌, ◌<◌, length, get_or, drop}
use Rattle.std.proofs.Common.{sym, ap, ◌∙◌, arith, length-drop, drop_of_length-le}
use mathlib.Core.List.{List, [], ◌∷◌}
use Rattle.basics.specs.Lists.{drop_next}

unfoldable pub along : {A X : Type 0} → (A → X → X) → List A → X → X
along step [] x = x
along step (a ∷ rest) x = along step rest (step a x)

-- The walk after i members: what is left, from the value of now, makes what the whole makes of the value at the start
pub record Folding {A X : Type 0} (step : A → X → X) (list : List A) (start x : X) (i : ℕ) : Type 0 where
  pub within : i ≤ length list
  pub left : along step (drop i list) x ≡ along step list start

module _ {A X : Type 0} (step : A → X → X) (list : List A) where
  pub fold_first : (start : X) → Folding step list start start 0
  fold_first start = record { within = omega arith; left = refl }

  module _ {start x : X} {i : ℕ} (walk : Folding step list start x i) where
    pub fold_next : (d : A) → i < length list → (y : X) → y ≡ step (get_or list i d) x → Folding step list start y (i + 1)
    unfolding along
    fold_next d h y e = record { within = omega arith; left = rw e (sym (ap (λ (rest : List A). along step rest x) (drop_next list i d h)) ∙ walk.left) }

    pub fold_last : length list ≤ i → x ≡ along step list start
    unfolding along
    fold_last h = rw (drop_of_length-le list h) at walk.left

-- a function that goes along a list by its pairs of neighbours: what one pair makes of what the pairs behind it come to; fewer than two members have none
pub record ByPairs {X : Type 0} (f : List ℕ → X) (none : X) (pair : ℕ → ℕ → X → X) : Type 0 where
  pub at-nothing : f [] ≡ none
  pub at_one : (a : ℕ) → f (a ∷ []) ≡ none
  pub at_pair : (a b : ℕ) (rest : List ℕ) → f (a ∷ (b ∷ rest)) ≡ pair a b (f (b ∷ rest))

module _ {X : Type 0} {f : List ℕ → X} {none : X} {pair : ℕ → ℕ → X → X} (F : ByPairs f none pair) (l : List ℕ) (i : ℕ) where
  -- from the i-th member on
  pub pairs_next : i + 1 < length l → f (drop i l) ≡ pair (get_or l i 0) (get_or l (i + 1) 0) (f (drop (i + 1) l))
  pairs_next h = rw (drop_next l i 0 (omega arith), drop_next l (i + 1) 0 h) (F.at_pair (get_or l i 0) (get_or l (i + 1) 0) (drop (i + 1 + 1) l))

  pub pairs_end : length l ≤ i + 1 → f (drop i l) ≡ none
  pairs_end h = few (drop i l) (rw (length-drop i l) (omega arith))
    where
      few : (m : List ℕ) → length m ≤ 1 → f m ≡ none
      few [] k = F.at-nothing
      few (a ∷ []) k = F.at_one a
      few (a ∷ (b ∷ rest)) k = absurd (omega arith)
