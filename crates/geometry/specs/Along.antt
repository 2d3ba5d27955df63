-- What the code walks along the path for: bytes replaced, the least upper cell of a pair, conductors told by their bytes.
use Rattle.std.specs.Prelude.{◌≡◌, ◌⊎◌, Bool, true, false, not, List, ℕ, ◌<◌, eqb, ltb, get_or, set, Option, Some, None}
use Rattle.basics.specs.Tests.{either}
use Rattle.basics.specs.Lists.{In}
use Rattle.room.specs.declared.Room.{Room}
use Rattle.room.specs.Room.{volume, holds_at, beneath, above}
use Rattle.geometry.specs.Geometry.{if_passed}
use Rattle.basics.specs.Folds.{along}

-- the byte `old` at a cell is made `new`; any other byte there stays
abbrev pub replaced_at : ℕ → ℕ → ℕ → List ℕ → List ℕ
replaced_at old new cell bytes = either (eqb (get_or bytes cell 0) old) (set bytes cell new) bytes

abbrev pub replaced : ℕ → ℕ → List ℕ → List ℕ → List ℕ
replaced old new = along (replaced_at old new)

-- a cell is a conductor where its byte is not 0
abbrev pub conducts_by : List ℕ → ℕ → Bool
conducts_by bytes v = not (eqb (get_or bytes v 0) 0)

-- of the pairs that a conductor stands in, the upper cell of the lower one
unfoldable pub pair_with : Room → (ℕ → Bool) → ℕ → Option ℕ
pair_with R conducts cell = either (holds_at conducts (beneath R cell)) (Some cell) (if_passed conducts (above R cell))

abbrev pub lesser_place : Option ℕ → ℕ → ℕ
lesser_place (Some v) n = either (ltb v n) v n
lesser_place None n = n

-- the least upper cell of a pair with a cell of the path, or n where none is less
abbrev pub least_upper : Room → (ℕ → Bool) → List ℕ → ℕ → ℕ
least_upper R conducts = along (λ cell. lesser_place (pair_with R conducts cell))

-- the path's cells are conductors, and each pair of conductors has one of them
pub record OnPath (R : Room) (conducts : ℕ → Bool) (path : List ℕ) : Type 0 where
  pub conducting : (v : ℕ) → In v path → conducts v ≡ true
  pub touched : (v u : ℕ) → v < volume R → beneath R v ≡ Some u → conducts v ≡ true → conducts u ≡ true → In v path ⊎ In u path
