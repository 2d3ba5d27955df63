-- Tree neighbours as the code holds them: a mask of twelve bits a cell. Bit k says that the cell where the k-th move leads is a tree neighbour; the moves
-- stand in the number order of the cells that they lead to.
use Rattle.std.specs.Prelude.{◌≡◌, Bool, List, [], ◌∷◌, map, ℕ, ◌/◌, ◌%◌, eqb, length, get_or, Option, Some, None}
use Rattle.basics.specs.Tests.{either}
use Rattle.room.specs.declared.Room.{Room}
use Rattle.room.specs.declared.Pos.{Pos}
use Rattle.room.specs.declared.Move.{Move}
use Rattle.room.specs.Room.{Good, volume, pos_of, by, move_at, neighbour_at}
use Rattle.repeaters.specs.Repeaters.{fits}
use Rattle.routing_resources.specs.Marks.{AllCells}

-- the places of the twelve moves, in the number order of the cells that they lead to: by the change of x, then of y, then of z
abbrev pub number_order : List ℕ
number_order = 3 ∷ 4 ∷ 5 ∷ 9 ∷ 6 ∷ 10 ∷ 7 ∷ 11 ∷ 8 ∷ 0 ∷ 1 ∷ 2 ∷ []

unfoldable pub ordered_moves : List Move
ordered_moves = map move_at number_order

abbrev pub ordered_move : ℕ → Move
ordered_move k = get_or ordered_moves k (by 0 0 0)

-- the cell that a move leads to, if the mask's lowest bit is set
abbrev pub linked_place : Room → Pos → ℕ → Move → Option ℕ
linked_place R p mask m = either (eqb (mask % 2) 1) (neighbour_at R p m) None

abbrev pub cons_place : Option ℕ → List ℕ → List ℕ
cons_place (Some v) vs = v ∷ vs
cons_place None vs = vs

abbrev pub inside_count : Option ℕ → ℕ
inside_count (Some v) = 1
inside_count None = 0

-- the cells that the set bits lead to
unfoldable pub cells_by : Room → Pos → ℕ → List Move → List ℕ
cells_by R p mask [] = []
cells_by R p mask (m ∷ ms) = cons_place (linked_place R p mask m) (cells_by R p (mask / 2) ms)

unfoldable pub linked_cells : Room → List ℕ → ℕ → List ℕ
linked_cells R links u = cells_by R (pos_of R u) (get_or links u 0) ordered_moves

-- the places of a path where a repeater may stand
abbrev pub fit_by : Room → List ℕ → List ℕ → List ℕ → ℕ → Bool
fit_by R links forbidden path = fits R (linked_cells R links) forbidden path

-- what the test of a place asks of its parameters
pub record PathReady (R : Room) (links forbidden path : List ℕ) : Type 0 where
  pub good : Good R
  pub links-long : length links ≡ volume R
  pub forbidden-long : length forbidden ≡ volume R
  pub cells : AllCells R path
