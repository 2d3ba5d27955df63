-- What a wire keeps clear of others, as docs/RULES.md, The tree of one net, has it. Definitions alone; their laws are in ResourceLaws.
use Rattle.std.specs.Prelude.{Bool, false, ◌||◌, List, [], ◌∷◌, ℕ, ◌+◌, ltb, eqb, Option, None}
use Rattle.basics.specs.Tests.{either}
use Rattle.basics.specs.Lists.{any}
use Rattle.room.specs.declared.Room.{Room}
use Rattle.room.specs.Room.{pos_of, move_at, neighbour, above}
use Rattle.room.specs.declared.Move.{Move}
use Rattle.routing_resources.specs.declared.Rise.{Rise}
use Rattle.routing_resources.specs.declared.Rise.TheVariants.{OneDown, SameLevel, OneUp}
use Rattle.routing_resources.specs.Marks.{is_cell}

-- which of three moves ends on a level: the moves stand in threes, one for each level
abbrev pub part_of : Rise → ℕ
part_of OneDown = 0
part_of SameLevel = 1
part_of OneUp = 2

-- the four moves that end on the level of the middle part `rise`: 0, 1 and 2 stand for one down, the same and one up
unfoldable pub directions : ℕ → List Move
directions rise = move_at rise ∷ move_at (3 + rise) ∷ move_at (6 + rise) ∷ move_at (9 + rise) ∷ []

-- v is one of the cell's four neighbours on that level
unfoldable pub is_neighbour : Room → ℕ → ℕ → ℕ → Bool
is_neighbour R cell rise v = any (λ m. is_cell (neighbour R cell m) v) (directions rise)

-- "Keepout of a cell: its four neighbours, each also one up and one down."
unfoldable pub in_keepout : Room → ℕ → ℕ → Bool
in_keepout R cell v = (is_neighbour R cell 1 v || is_neighbour R cell 2 v) || is_neighbour R cell 0 v

-- the y of a cell
abbrev pub level : Room → ℕ → ℕ
level R cell = (pos_of R cell).y

-- of two cells of different levels, the lower one
abbrev pub lower : Room → ℕ → ℕ → ℕ
lower R a b = either (ltb (level R a) (level R b)) a b

-- "the clearance (above the lower end)" of a stair between two cells; two cells of one level have none
unfoldable pub clearance_of : Room → ℕ → ℕ → Option ℕ
clearance_of R a b = either (eqb (level R a) (level R b)) None (above R (lower R a b))

-- v is the clearance of a stair along the branch
unfoldable pub is_clearance : Room → List ℕ → ℕ → Bool
is_clearance R [] v = false
is_clearance R (a ∷ []) v = false
is_clearance R (a ∷ (b ∷ rest)) v = is_cell (clearance_of R a b) v || is_clearance R (b ∷ rest) v
