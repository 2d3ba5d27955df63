-- A set of cells as marks: one byte a cell, 1 where the cell is marked and 0 where it is not; and lists of cells. Definitions alone; their laws are in
-- MarkLaws.
use Rattle.std.specs.Prelude.{Bool, List, [], ◌∷◌, ℕ, suc, ◌≤◌, ◌<◌, eqb, length, get_or, replicate, Option}
use Rattle.basics.specs.Tests.{either}
use Rattle.room.specs.declared.Room.{Room}
use Rattle.room.specs.Room.{volume, holds_at}

-- the marks with this byte at each cell that passes the test; every other cell keeps its byte
unfoldable pub with_byte : ℕ → (ℕ → Bool) → List ℕ → List ℕ
with_byte byte p [] = []
with_byte byte p (m ∷ ms) = either (p 0) byte m ∷ with_byte byte (λ v. p (suc v)) ms

-- with each cell marked that passes the test
abbrev pub marked_by : (ℕ → Bool) → List ℕ → List ℕ
marked_by = with_byte 1

-- with the mark of each cell taken away that passes the test
abbrev pub unmarked_by : (ℕ → Bool) → List ℕ → List ℕ
unmarked_by = with_byte 0

-- no cell of n is marked
abbrev pub no_marks : ℕ → List ℕ
no_marks n = replicate n 0

-- cell v is marked
abbrev pub is_marked : List ℕ → ℕ → Bool
is_marked ms v = eqb (get_or ms v 0) 1

-- each byte is a mark or none
pub record Marks (bytes : List ℕ) : Type 0 where
  pub small : (v : ℕ) → v < length bytes → get_or bytes v 0 ≤ 1

-- cell v is the one at this place; a place outside the room has none
abbrev pub is_cell : Option ℕ → ℕ → Bool
is_cell place v = holds_at (λ cell. eqb cell v) place

-- each of these is a number below n
pub record CellsBelow (n : ℕ) (cells : List ℕ) : Type 0 where
  pub below : (i : ℕ) → i < length cells → get_or cells i 0 < n

-- each of these is the number of a cell
abbrev pub AllCells : Room → List ℕ → Type 0
AllCells R = CellsBelow (volume R)
