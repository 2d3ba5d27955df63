-- `branch_stair_clearances` meets its contract: each round marks the clearance of one pair of the branch.
use mathlib.Core.Path.{◌≡◌, refl}
use mathlib.Core.Bool.{Bool, false, ◌||◌}
use mathlib.Core.List.{List}
use Prim.Native.Nat.{ℕ, ◌+◌, ◌-◌, ◌≤◌, ◌<◌}
use native.Mathlib.Omega.{arith}
use lib.ListN.{length, get_or, drop}
use Rattle.basics.specs.Folds.{ByPairs, pairs_next, pairs_end}
use Rattle.room.specs.declared.Room.{Room}
use Rattle.room.specs.Room.{volume}
use Rattle.routing_resources.specs.Marks.{is_cell, AllCells}
use Rattle.routing_resources.specs.MarkLaws.{MarkedSoFar, read_below}
use Rattle.routing_resources.specs.Resources.{clearance_of, is_clearance}
use Rattle.routing_resources.proofs.branch_stair_clearances.Given as goal

-- the clearances from the i-th cell of the branch on
abbrev pub clears : Room → List ℕ → ℕ → ℕ → Bool
clears R branch i = is_clearance R (drop i branch)

pub by-pairs : (R : Room) (v : ℕ) → ByPairs (λ branch. is_clearance R branch v) false (λ a b rest. is_cell (clearance_of R a b) v || rest)
unfolding is_clearance
by-pairs R v = record { at-nothing = refl; at_one = λ a. refl; at_pair = λ a b rest. refl }

-- j is the cell behind i
pub one_more : (R : Room) (branch : List ℕ) (i j : ℕ) → i + 1 ≡ j → j < length branch → (v : ℕ)
    → clears R branch i v ≡ is_cell (clearance_of R (get_or branch i 0) (get_or branch j 0)) v || clears R branch (i + 1) v
one_more R branch i j e h v = rw (← e) (pairs_next (by-pairs R v) branch i (omega arith))

pub all-cleared : (R : Room) (branch : List ℕ) (i : ℕ) → length branch ≤ i + 1 → (v : ℕ) → clears R branch i v ≡ false
all-cleared R branch i h v = pairs_end (by-pairs R v) branch i h

pub ends_in : (R : Room) (branch : List ℕ) → AllCells R branch → (i j : ℕ) → i ≤ j → j < length branch → (a b : ℕ) → a ≡ get_or branch i 0 → b ≡ get_or branch j 0
    → (a < volume R) × (b < volume R)
ends_in R branch cells i j l h a b e f = (read_below cells i (omega arith) a e, read_below cells j h b f)

abbrev pub invariant-loop-i : goal.invariant-loop-i
invariant-loop-i l = MarkedSoFar 1 (clears l.room l.branch) l.initial.marks l.marks (l.i - 1)
