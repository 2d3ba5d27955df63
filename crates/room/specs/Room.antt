-- docs/RULES.md, The room: sides, cell numbers, the twelve moves, the cells beneath and above, distances. Definitions alone; their laws are
-- in the files named Laws.
use Rattle.std.specs.Prelude.{◌≡◌, Bool, true, false, ◌&&◌, List, [], ◌∷◌, ℕ, zero, suc, ◌+◌, ◌-◌, ◌*◌, ◌/◌, ◌%◌, ◌≤◌, ◌<◌, leb, ltb, eqb, get_or, Option, Some, None}
use Rattle.room.specs.declared.Room.{Room}
use Rattle.room.specs.declared.Pos.{Pos}
use Rattle.room.specs.declared.Move.{Move}
use Rattle.basics.specs.Lists.{In}

-- "Sides rise to 300, V to 65,536": sides X, Y, Z are 1 to 300; the room has V = XYZ cells, at most 65,536
abbrev pub max_side : ℕ
max_side = 300

abbrev pub max_volume : ℕ
max_volume = 65536

abbrev pub volume : Room → ℕ
volume R = R.wide * R.high * R.deep

-- a is from low to high
unfoldable pub between : ℕ → ℕ → ℕ → Bool
between low a high = leb low a && leb a high

-- what number 2 judges
unfoldable pub sides_good : Room → Bool
sides_good R = between 1 R.wide max_side && (between 1 R.high max_side && (between 1 R.deep max_side && leb (volume R) max_volume))

-- a room that number 2 does not refuse: its test, read as inequalities
pub record Good (R : Room) : Type 0 where
  pub x_some : 1 ≤ R.wide
  pub x_most : R.wide ≤ max_side
  pub y_some : 1 ≤ R.high
  pub y_most : R.high ≤ max_side
  pub z_some : 1 ≤ R.deep
  pub z_most : R.deep ≤ max_side
  pub few : volume R ≤ max_volume

-- "Cell (x, y, z) has number (xY + y)Z + z", and back
abbrev pub at : ℕ → ℕ → ℕ → Pos
at a b c = record { x = a; y = b; z = c }

unfoldable pub cell_of : Room → Pos → ℕ
cell_of R p = (p.x * R.high + p.y) * R.deep + p.z

unfoldable pub pos_of : Room → ℕ → Pos
pos_of R n = at (n / R.deep / R.high) (n / R.deep % R.high) (n % R.deep)

-- the position is in the room; `within` is its test
pub record Within (R : Room) (p : Pos) : Type 0 where
  pub x_in : p.x < R.wide
  pub y_in : p.y < R.high
  pub z_in : p.z < R.deep

unfoldable pub within : Room → Pos → Bool
within R p = ltb p.x R.wide && (ltb p.y R.high && ltb p.z R.deep)

-- each part of the position is below the longest side that a room may have
pub record SmallPos (p : Pos) : Type 0 where
  pub x_small : p.x < max_side
  pub y_small : p.y < max_side
  pub z_small : p.z < max_side

-- "The twelve moves in order: (1,0), (-1,0), (0,1), (0,-1) in (x,z), each with dy -1, 0, 1." Each part is one more than its change, so that 0, 1
-- and 2 stand for -1, 0 and 1
abbrev pub by : ℕ → ℕ → ℕ → Move
by dx dy dz = record { x = dx; y = dy; z = dz }

unfoldable pub moves : List Move
moves =
    by 2 0 1 ∷ by 2 1 1 ∷ by 2 2 1
    ∷ by 0 0 1 ∷ by 0 1 1 ∷ by 0 2 1
    ∷ by 1 0 2 ∷ by 1 1 2 ∷ by 1 2 2
    ∷ by 1 0 0 ∷ by 1 1 0 ∷ by 1 2 0
    ∷ []

abbrev pub move_at : ℕ → Move
move_at k = get_or moves k (by 0 0 0)

-- the move that leads from position p to q, where they are a step apart
abbrev pub move_between : Pos → Pos → Move
move_between p q = by (q.x + 1 - p.x) (q.y + 1 - p.y) (q.z + 1 - p.z)

-- a flat step leaves y as it is; every other is a stair
abbrev pub flat : Move → Bool
flat m = eqb m.y 1

-- cell n where the test passes, else no cell of the room
abbrev pub in_or_out : Bool → ℕ → Option ℕ
in_or_out true n = Some n
in_or_out false n = None

-- what the test says of the cell at a place; a place outside the room has none
abbrev pub holds_at : (ℕ → Bool) → Option ℕ → Bool
holds_at test (Some v) = test v
holds_at test None = false

-- the first place, and where that is outside the other one
abbrev pub or_else : Option ℕ → Option ℕ → Option ℕ
or_else (Some v) other = Some v
or_else None other = other

-- of the numbers below n, the least that passes the test; `None` where none does
unfoldable pub first_below : ℕ → (ℕ → Bool) → Option ℕ
first_below zero test = None
first_below (suc n) test = or_else (first_below n test) (in_or_out (test n) n)

-- the move m from p stays in the room
unfoldable pub stays : Room → Pos → Move → Bool
stays R p m =
    between 1 (p.x + m.x) R.wide && (between 1 (p.y + m.y) R.high && between 1 (p.z + m.z) R.deep)

-- where the move m leads from p, if it stays in the room
abbrev pub shifted : Pos → Move → Pos
shifted p m = at (p.x + m.x - 1) (p.y + m.y - 1) (p.z + m.z - 1)

-- the cell that the move m leads to from position p, and from cell n; `None` where that is not in the room
abbrev pub neighbour_at : Room → Pos → Move → Option ℕ
neighbour_at R p m = in_or_out (stays R p m) (cell_of R (shifted p m))

unfoldable pub neighbour : Room → ℕ → Move → Option ℕ
neighbour R n m = neighbour_at R (pos_of R n) m

-- one of the twelve moves leads from cell a to cell b
pub record Step (R : Room) (a b : ℕ) : Type 0 where
  pub from_in : a < volume R
  pub move : Move
  pub listed : In move moves
  pub leads : neighbour R a move ≡ Some b

-- the cell right beneath cell n, and right above it
unfoldable pub beneath : Room → ℕ → Option ℕ
beneath R n = in_or_out (leb 1 (pos_of R n).y) (n - R.deep)

unfoldable pub above : Room → ℕ → Option ℕ
above R n = in_or_out (ltb ((pos_of R n).y + 1) R.high) (n + R.deep)

-- |dx|+|dy|+|dz|
abbrev pub apart : ℕ → ℕ → ℕ
apart a b = (a - b) + (b - a)

abbrev pub distance_at : Pos → Pos → ℕ
distance_at p q = apart p.x q.x + apart p.y q.y + apart p.z q.z

unfoldable pub distance : Room → ℕ → ℕ → ℕ
distance R a b = distance_at (pos_of R a) (pos_of R b)
