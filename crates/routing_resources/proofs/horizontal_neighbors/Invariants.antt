-- `horizontal_neighbors` meets its contract: each round marks where one direction leads.
use mathlib.Core.Path.{◌≡◌, refl}
use mathlib.Core.Bool.{Bool}
use mathlib.Core.List.{List}
use Prim.Native.Nat.{ℕ, zero, suc, ◌+◌, ◌*◌, ◌≤◌, ◌<◌}
use native.Mathlib.Nat.{zero-add}
use native.Mathlib.Omega.{arith}
use lib.ListN.{length, get_or}
use Rattle.basics.specs.Lists.{any}
use Rattle.room.specs.declared.Room.{Room}
use Rattle.room.specs.declared.Pos.{Pos}
use Rattle.room.specs.declared.Move.{Move}
use Rattle.room.specs.Room.{pos_of, by, move_at, neighbour_at, neighbour}
use Rattle.routing_resources.specs.Marks.{marked_by, is_cell}
use Rattle.routing_resources.specs.MarkLaws.{MarkedSoFar, rest_of}
use Rattle.routing_resources.specs.Resources.{directions, is_neighbour}
use Rattle.routing_resources.proofs.horizontal_neighbors.Given as goal

-- cell v is where a move leads from a position
abbrev pub leads_to : Room → Pos → ℕ → Move → Bool
leads_to R p v m = is_cell (neighbour_at R p m) v

pub four : (rise k : ℕ) → 4 ≤ k → length (directions rise) ≤ k
unfolding directions
four rise k h = h

pub beside : (R : Room) (cell rise : ℕ) (start : List ℕ) → marked_by (λ v. any (leads_to R (pos_of R cell) v) (directions rise)) start ≡ marked_by (is_neighbour R cell rise) start
unfolding is_neighbour neighbour
beside R cell rise start = refl

-- the moves stand in threes: the k-th three has the k-th direction on each level
pub in_threes : (k rise : ℕ) → k < 4 → move_at (3 * k + rise) ≡ get_or (directions rise) k (by 0 0 0)
unfolding directions
in_threes zero rise h = rw zero-add
in_threes (suc zero) rise h = refl
in_threes (suc (suc zero)) rise h = refl
in_threes (suc (suc (suc zero))) rise h = refl
in_threes (suc (suc (suc (suc k)))) rise h = absurd (omega arith)

abbrev pub invariant-loop-k : goal.invariant-loop-k
invariant-loop-k l = MarkedSoFar 1 (rest_of (leads_to l.room l.p) (directions l.part)) l.initial.marks l.marks l.k
