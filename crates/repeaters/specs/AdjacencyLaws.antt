-- The loops that make the masks of a tree: over the steps of a branch, and over the branches.
use Rattle.std.specs.Prelude.{◌≡◌, refl, ℕ, zero, suc, ◌+◌, ◌-◌, ◌≤◌, ◌<◌, length, get_or, take}
use mathlib.Core.List.{List, [], ◌∷◌}
use Rattle.std.proofs.Common.{suc-add, arith, drop_of_length-le, length-take-le}
use Rattle.basics.specs.Lists.{drop_next}
use Rattle.std.proofs.Math.ListN.{drop}
use Rattle.std.proofs.Math.Seq.{drop-drop}
use Rattle.room.specs.declared.Room.{Room}
use Rattle.room.specs.Room.{Step}
use Rattle.branches.specs.declared.BranchLengths.{BranchLengths}
use Rattle.branches.specs.Branches.{sum, lengths_in, cut_into, branches_of}
use Rattle.repeaters.specs.Repeaters.{is_step, beside_on, neighbouring}
use Rattle.repeaters.specs.Masks.{Steps, AllSteps, BranchesReady, NowLinked}
use Rattle.repeaters.specs.MaskLaws.{AddingLinks, adding-none, adding-next, adding-all}

-- ---- the steps of one branch

-- what is left of the branch has steps, and with them the masks come to those of the whole branch
pub record StepsLeft (R : Room) (branch start links rest : List ℕ) : Type 0 where
  pub steps : Steps R rest
  pub adding : AddingLinks R (beside_on rest) (beside_on branch) start links

-- from each cell of the branch to the next there is a step
pub step-at : (R : Room) (branch : List ℕ) → Steps R branch → (i : ℕ) → i + 1 < length branch → Step R (get_or branch i 0) (get_or branch (i + 1) 0)
step-at R [] s i h = absurd (omega arith)
step-at R (a ∷ []) s i h = absurd (omega arith)
step-at R (a ∷ (b ∷ rest)) s zero h = s.0
step-at R (a ∷ (b ∷ rest)) s (suc i) h = rw (suc-add i 1) (step-at R (b ∷ rest) s.1 i (omega arith))

step-first : (R : Room) (rest : List ℕ) → Steps R rest → 2 ≤ length rest → Step R (get_or (take 2 rest) 0 0) (get_or (take 2 rest) 1 0)
step-first R [] s h = absurd (omega arith)
step-first R (a ∷ []) s h = absurd (omega arith)
step-first R (a ∷ (b ∷ more)) s h = s.0

pub step-shown : (R : Room) (rest window : List ℕ) (n a b : ℕ) → n ≡ 2 → n ≤ length rest → window ≡ take n rest → a ≡ get_or window 0 0 → b ≡ get_or window 1 0 → Steps R rest → Step R a b
step-shown R rest window n a b two more shown first second s = let enough : 2 ≤ length rest = omega arith in rw (first, second, shown, two) (step-first R rest s enough)

module _ {R : Room} {branch start : List ℕ} where
  pub steps-none : Steps R branch → StepsLeft R branch start start branch
  steps-none s = record { steps = s; adding = adding-none }

  steps-next : {links links' : List ℕ} (rest : List ℕ) → StepsLeft R branch start links rest → 2 ≤ length rest
      → NowLinked R (is_step (get_or (take 2 rest) 0 0) (get_or (take 2 rest) 1 0)) links links' → StepsLeft R branch start links' (drop 1 rest)
  unfolding beside_on
  steps-next [] I h J = absurd (omega arith)
  steps-next (a ∷ []) I h J = absurd (omega arith)
  steps-next (a ∷ (b ∷ more)) I h J = record { steps = I.steps.1; adding = adding-next I.adding (is_step a b) (beside_on (b ∷ more)) J (λ u v. refl) }

  -- one window of two, which holds a and b
  pub steps-shown : {links links' : List ℕ} (rest window rest' : List ℕ) (n a b : ℕ) → n ≡ 2 → n ≤ length rest → window ≡ take n rest → rest' ≡ drop 1 rest
      → a ≡ get_or window 0 0 → b ≡ get_or window 1 0 → StepsLeft R branch start links rest → NowLinked R (is_step a b) links links' → StepsLeft R branch start links' rest'
  steps-shown rest window rest' n a b two more shown e first second I J =
      let enough : 2 ≤ length rest = omega arith in rw e (steps-next rest I enough (rw (first, second, shown, two) at J))

  pub steps-all : {links : List ℕ} (rest : List ℕ) → StepsLeft R branch start links rest → length rest < 2 → NowLinked R (beside_on branch) start links
  unfolding beside_on
  steps-all [] I h = adding-all I.adding (λ u v. refl)
  steps-all (a ∷ []) I h = adding-all I.adding (λ u v. refl)
  steps-all (a ∷ (b ∷ more)) I h = absurd (omega arith)

-- ---- the branches

pub record LayingLinks (R : Room) (L : BranchLengths) (cells start links : List ℕ) (from k : ℕ) : Type 0 where
  pub within : k ≤ L.count
  pub fits : from + sum (drop k (lengths_in L)) ≤ length cells
  pub steps : AllSteps R (cut_into (drop k (lengths_in L)) (drop from cells))
  pub adding : AddingLinks R (neighbouring (cut_into (drop k (lengths_in L)) (drop from cells))) (neighbouring (branches_of L cells)) start links

module _ {R : Room} {L : BranchLengths} {cells start : List ℕ} (D : BranchesReady R L cells) where
  pub laying_none : LayingLinks R L cells start start 0 0
  laying_none = record { within = omega arith; fits = omega (arith, D.branched.within); steps = D.steps; adding = adding-none }

  module _ {links : List ℕ} {from k : ℕ} (I : LayingLinks R L cells start links from k) where
    module _ (h : k < length (lengths_in L)) (to : ℕ) (e : to ≡ from + get_or (lengths_in L) k 0) where
      size_is : to - from ≡ get_or (lengths_in L) k 0
      size_is = omega arith

      ends : from + (to - from) ≡ to
      ends = omega arith

      first : drop k (lengths_in L) ≡ (to - from) ∷ drop (k + 1) (lengths_in L)
      first = rw size_is (drop_next (lengths_in L) k 0 h)

      cut : cut_into (drop k (lengths_in L)) (drop from cells) ≡ take (to - from) (drop from cells) ∷ cut_into (drop (k + 1) (lengths_in L)) (drop to cells)
      unfolding cut_into
      cut = rw (first, drop-drop (to - from) from cells, ends)

      more : sum (drop k (lengths_in L)) ≡ to - from + sum (drop (k + 1) (lengths_in L))
      unfolding sum
      more = rw first

      left-steps : AllSteps R (take (to - from) (drop from cells) ∷ cut_into (drop (k + 1) (lengths_in L)) (drop to cells))
      left-steps = rw cut at I.steps

      pub branch-within : to ≤ length cells
      branch-within = omega (arith, I.fits, more)

      pub branch-laid : Steps R (take (to - from) (drop from cells))
      branch-laid = left-steps.0

      pub laying_next : {links' : List ℕ} → NowLinked R (beside_on (take (to - from) (drop from cells))) links links' → LayingLinks R L cells start links' to (k + 1)
      unfolding neighbouring
      laying_next J = record {
        within = omega (arith, length-take-le L.count L.each (omega (arith, D.branched.few, D.branched.whole)));
        fits = omega (arith, I.fits, more);
        steps = left-steps.1;
        adding = adding-next I.adding (beside_on (take (to - from) (drop from cells))) _ J (λ u v. rw cut);
      }

    pub laying_all : length (lengths_in L) ≤ k → NowLinked R (neighbouring (branches_of L cells)) start links
    unfolding neighbouring cut_into
    laying_all h = adding-all I.adding (λ u v. rw (drop_of_length-le (lengths_in L) h))
