-- The cells that free moves lead to from a start, and what stands against each move out of them. Which cells are free is told by any obstacles: 0 where
-- nothing stands against entering a cell, else a number that says what does. Definitions alone.
use Rattle.std.specs.Prelude.{◌≡◌, Bool, List, [], ◌∷◌, map, ℕ, zero, suc, ◌*◌, ◌/◌, ◌%◌, eqb, ltb, get_or, Option, Some, None}
use Rattle.basics.specs.Tests.{either}
use Rattle.basics.specs.Lists.{joined}
use Rattle.basics.specs.Counts.{bit}
use Rattle.lent.specs.Lent.{filled}
use Rattle.room.specs.declared.Room.{Room}
use Rattle.room.specs.declared.Move.{Move}
use Rattle.room.specs.Room.{volume, moves, move_at, neighbour}
use Rattle.walk.specs.Walks.{is_reached}

-- ---- what stands against a move: "0 allowed, 1 outside"; what other numbers mean is up to the obstacles

abbrev pub allowed : ℕ
allowed = 0

abbrev pub outside : ℕ
outside = 1

-- against entering a place
abbrev pub reason_at : (ℕ → ℕ) → Option ℕ → ℕ
reason_at obstacle (Some v) = obstacle v
reason_at obstacle None = outside

-- against the move i out of cell u
abbrev pub reason_by : Room → (ℕ → ℕ) → ℕ → ℕ → ℕ
reason_by R obstacle u i = reason_at obstacle (neighbour R u (move_at i))

-- ---- which cells are reached

-- the cell at a place, where nothing stands against it
abbrev pub free_at : (ℕ → ℕ) → Option ℕ → List ℕ
free_at obstacle (Some v) = either (eqb (obstacle v) allowed) (v ∷ []) []
free_at obstacle None = []

-- the cells that the free moves out of u lead to
unfoldable pub free_by : Room → (ℕ → ℕ) → ℕ → List ℕ
free_by R obstacle u = joined (map (λ (m : Move). free_at obstacle (neighbour R u m)) moves)

-- free moves lead from the start to v
unfoldable pub reached_by : Room → (ℕ → ℕ) → ℕ → ℕ → Bool
reached_by R obstacle start v = is_reached (free_by R obstacle) (volume R) start v

-- ---- as bytes

-- the numbers f 0, f 1 and so on, n of them
unfoldable pub tabled : ℕ → (ℕ → ℕ) → List ℕ
tabled zero f = []
tabled (suc n) f = f 0 ∷ tabled n (λ k. f (suc k))

-- one byte a cell: 1 where it is reached
abbrev pub marks_by : Room → (ℕ → ℕ) → ℕ → List ℕ
marks_by R obstacle start = tabled (volume R) (λ v. bit (reached_by R obstacle start v))

-- of the move i out of cell u: what stands against it where the cell is reached, else 0
abbrev pub wall_byte : Room → (ℕ → ℕ) → (ℕ → Bool) → ℕ → ℕ → ℕ
wall_byte R obstacle reached u i = either (reached u) (reason_by R obstacle u i) 0

-- twelve bytes a cell: byte 12u + i is of the move i out of cell u
abbrev pub wall_at : Room → (ℕ → ℕ) → (ℕ → Bool) → ℕ → ℕ
wall_at R obstacle reached k = wall_byte R obstacle reached (k / 12) (k % 12)

abbrev pub walls_over : Room → (ℕ → ℕ) → (ℕ → Bool) → List ℕ
walls_over R obstacle reached = tabled (12 * volume R) (wall_at R obstacle reached)

abbrev pub walls_by : Room → (ℕ → ℕ) → ℕ → List ℕ
walls_by R obstacle start = walls_over R obstacle (reached_by R obstacle start)

-- ---- what the contracts cite

-- obstacles from a byte a cell
abbrev pub byte_of : List ℕ → ℕ → ℕ
byte_of bytes v = get_or bytes v 0

-- cells from a mark a cell
abbrev pub marked_in : List ℕ → ℕ → Bool
marked_in marks v = ltb 0 (get_or marks v 0)

-- the marks and the walls over memory of just their lengths
pub record WallsWritten (R : Room) (obstacle : ℕ → ℕ) (start : ℕ) (marks walls : List ℕ) : Type 0 where
  pub marks-are : marks ≡ marks_by R obstacle start
  pub walls-are : walls ≡ walls_by R obstacle start

-- and over longer memory, zeros behind them
pub record WallsTold (R : Room) (obstacle : ℕ → ℕ) (start : ℕ) (reached walls reached' walls' : List ℕ) : Type 0 where
  pub reached-is : reached' ≡ filled (marks_by R obstacle start) reached
  pub walls-is : walls' ≡ filled (walls_by R obstacle start) walls
