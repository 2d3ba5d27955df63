-- The masks of a tree: which relation they hold, and what linking two cells does to it.
use Rattle.std.specs.Prelude.{◌≡◌, Bool, ◌&&◌, ◌||◌, List, [], ◌∷◌, ℕ, zero, suc, ◌+◌, ◌*◌, ◌/◌, ◌<◌, eqb, length, get_or}
use Rattle.basics.specs.Tests.{either}
use Rattle.basics.specs.Counts.{bit}
use Rattle.room.specs.declared.Room.{Room}
use Rattle.room.specs.declared.Move.{Move}
use Rattle.room.specs.Room.{volume, pos_of, holds_at, neighbour, Step, move_between}
use Rattle.branches.specs.declared.BranchLengths.{BranchLengths}
use Rattle.branches.specs.Branches.{branches_of, Branched}
use Rattle.repeaters.specs.Links.{ordered_move}

-- ---- what is asked of the branches

-- each cell of the branch is one step from the next
abbrev pub Steps : Room → List ℕ → Type 0
Steps R [] = Unit {0}
Steps R (a ∷ []) = Unit {0}
Steps R (a ∷ (b ∷ rest)) = Step R a b × Steps R (b ∷ rest)

abbrev pub AllSteps : Room → List (List ℕ) → Type 0
AllSteps R [] = Unit {0}
AllSteps R (branch ∷ branches) = Steps R branch × AllSteps R branches

-- the branches stand one behind the other in the buffer
pub record BranchesReady (R : Room) (L : BranchLengths) (cells : List ℕ) : Type 0 where
  pub branched : Branched L cells
  pub steps : AllSteps R (branches_of L cells)

-- ---- the masks

-- the mask of n bits
unfoldable pub mask_of : ℕ → (ℕ → Bool) → ℕ
mask_of zero f = 0
mask_of (suc n) f = mask_of n (λ k. f (suc k)) * 2 + bit (f zero)

-- the k-th move leads from u to a cell that is related to it
abbrev pub is_link : Room → (ℕ → ℕ → Bool) → ℕ → ℕ → Bool
is_link R p u k = holds_at (p u) (neighbour R u (ordered_move k))

-- the masks hold this relation
pub record Masks (R : Room) (p : ℕ → ℕ → Bool) (links : List ℕ) : Type 0 where
  pub long : length links ≡ volume R
  pub bits : (u : ℕ) → u < volume R → get_or links u 0 ≡ mask_of 12 (is_link R p u)

-- or some relation
pub record Masked (R : Room) (links : List ℕ) : Type 0 where
  pub relation : ℕ → ℕ → Bool
  pub masks : Masks R relation links

-- b is a's neighbour too
abbrev pub with_link : ℕ → ℕ → (ℕ → ℕ → Bool) → ℕ → ℕ → Bool
with_link a b p u v = (eqb a u && eqb b v) || p u v

-- the masks hold these links more
pub record NowLinked (R : Room) (more : ℕ → ℕ → Bool) (links links' : List ℕ) : Type 0 where
  pub goes : (p : ℕ → ℕ → Bool) → Masks R p links → Masks R (λ u v. more u v || p u v) links'

-- ---- the number of a move in number order

unfoldable pub move_index : Move → ℕ
move_index m = either (eqb m.x 0) m.y (either (eqb m.x 1) (3 + m.y * 2 + m.z / 2) (9 + m.y))

abbrev pub step_index : Room → ℕ → ℕ → ℕ
step_index R a b = move_index (move_between (pos_of R a) (pos_of R b))
