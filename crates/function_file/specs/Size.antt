-- How long the text of a room is, counted cell by cell before any of it is written. Definitions alone.
use Rattle.std.specs.Prelude.{List, [], ◌∷◌, ℕ, ◌+◌, eqb, ltb, get_or}
use Rattle.basics.specs.Tests.{either}
use Rattle.room.specs.declared.Room.{Room}
use Rattle.room.specs.declared.Pos.{Pos}
use Rattle.room.specs.Room.{pos_of}

-- a number below 1000: its blank, its `~` and its digits, none for 0
unfoldable pub number_size : ℕ → ℕ
number_size n = either (eqb n 0) 2 (either (ltb n 10) 3 (either (ltb n 100) 4 5))

-- how many letters the names have, by kind from 0 on
unfoldable pub name_sizes : List ℕ
name_sizes = 0 ∷ 5 ∷ 5 ∷ 13 ∷ 14 ∷ 8 ∷ 10 ∷ 5 ∷ 12 ∷ 20 ∷ 13 ∷ 14 ∷ 6 ∷ []

-- and the sides, by facing from 0 on; opposite sides have as many
unfoldable pub side_sizes : List ℕ
side_sizes = 0 ∷ 5 ∷ 4 ∷ 5 ∷ 4 ∷ 2 ∷ 4 ∷ []

-- a torch on a wall has five letters more
unfoldable pub name_size : ℕ → ℕ → ℕ
name_size kind facing = either (eqb kind 4) (either (eqb facing 0) 14 19) (get_or name_sizes kind 0)

-- whether a kind says that it is on the floor or on a wall
unfoldable pub mount_size : ℕ → ℕ → ℕ
mount_size kind onWall = either (eqb kind 7) onWall (either (eqb kind 8) onWall 0)

-- what stands in brackets: `[face=floor]` or nothing; `[facing=` or `[face=wall,facing=`, the side and `]`
unfoldable pub bracket_size : ℕ → ℕ → ℕ
bracket_size kind facing = either (eqb facing 0) (mount_size kind 12) (9 + mount_size kind 10 + get_or side_sizes facing 0)

unfoldable pub state_size : ℕ → ℕ → ℕ
state_size kind facing = name_size kind facing + bracket_size kind facing

-- `setblock`, ` minecraft:`, ` replace` and the line's end are 28 bytes
unfoldable pub line_size : Pos → ℕ → ℕ → ℕ
line_size p kind facing = 28 + number_size p.x + number_size p.y + number_size p.z + state_size kind facing

-- Air has no line
unfoldable pub block_size : Room → ℕ → ℕ → ℕ → ℕ
block_size R cell kind facing = either (eqb kind 0) 0 (line_size (pos_of R cell) kind facing)

-- the cells from `cell` on, of which the kinds are given
unfoldable pub size_from : Room → ℕ → List ℕ → List ℕ → ℕ
size_from R cell [] facings = 0
size_from R cell (kind ∷ kinds) facings = block_size R cell kind (get_or facings cell 0) + size_from R (cell + 1) kinds facings

abbrev pub size_of : Room → List ℕ → List ℕ → ℕ
size_of R kinds facings = size_from R 0 kinds facings

-- how many cells are not Air: so many lines the text has
unfoldable pub blocks : List ℕ → ℕ
blocks [] = 0
blocks (kind ∷ kinds) = either (eqb kind 0) (blocks kinds) (1 + blocks kinds)

-- no line is longer
abbrev pub line_most : ℕ
line_most = 77
