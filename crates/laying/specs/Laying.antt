-- One routed net laid into the room of blocks with their facings, over what the nets before it have left, as `materialize_multinet` lays it with wire shapes
-- left out; and whose the cells are. Definitions alone; their laws are in the files named Laws.
use Rattle.std.specs.Prelude.{Bool, not, ◌&&◌, ◌||◌, List, ℕ, ◌+◌, ◌-◌, eqb, length, get_or, set, Option, Some, None}
use Rattle.basics.specs.Tests.{either}
use Rattle.basics.specs.Lists.{any}
use Rattle.basics.specs.Folds.{along}
use Rattle.room.specs.declared.Room.{Room}
use Rattle.room.specs.Room.{volume, pos_of, beneath, first_below}
use Rattle.room.specs.Units.{air, solid, transparent, redstone_wire, repeater, no_facing}
use Rattle.routing_resources.specs.Marks.{is_marked, with_byte}
use Rattle.ends.specs.declared.Tap.{Tap}
use Rattle.walk.specs.Walks.{parents_from}
use Rattle.repeaters.specs.Repeaters.{cells_passing, tree_neighbours, facing_of}

-- a routed net: its source's terminal, its sinks as the wire meets them, its branches in sheet order, and marks of what it occupies and of its planned
-- repeaters
pub record Net : Type 0 where
  pub source : ℕ
  pub taps : List Tap
  pub branches : List (List ℕ)
  pub occupied : List ℕ
  pub repeaters : List ℕ

-- the room: what stands in each cell, and its facing
pub record Laid : Type 0 where
  pub kinds : List ℕ
  pub facings : List ℕ

abbrev pub laid_room : List ℕ → List ℕ → Laid
laid_room k f = record { kinds = k; facings = f }

-- a block stands at the cell, whatever stood there
abbrev pub placed : ℕ → ℕ → ℕ → Laid → Laid
placed kind facing cell L = laid_room (set L.kinds cell kind) (set L.facings cell facing)

-- where the cell is Air a block of this kind is laid; "wire and supports have facing 0"
unfoldable pub laid_on : ℕ → ℕ → Laid → Laid
laid_on kind cell L = either (eqb (get_or L.kinds cell air) air) (placed kind no_facing cell L) L

-- "a support outside the room isn't laid": everything there is Solid
abbrev pub laid_at : ℕ → Option ℕ → Laid → Laid
laid_at kind (Some cell) L = laid_on kind cell L
laid_at kind None L = L

-- ---- supports

-- "either end of a stair of any branch": a cell next to it on a branch lies higher or lower
unfoldable pub stair_end : Room → (ℕ → List ℕ) → ℕ → Bool
stair_end R next v = any (λ u. not (eqb (pos_of R u).y (pos_of R v).y)) (next v)

-- "a BlockPower sink's terminal": a sink's port is either Wire or BlockPower
unfoldable pub powered_at : List Tap → ℕ → Bool
powered_at taps v = any (λ tap. not tap.wire && eqb tap.terminal v) taps

module _ (R : Room) (next : ℕ → List ℕ) (taps : List Tap) (repeaters : List ℕ) where
  -- "Solid if the cell is a planned repeater, a BlockPower sink's terminal or either end of a stair of any branch, else Transparent"
  unfoldable pub support_kind : ℕ → ℕ
  support_kind v = either (is_marked repeaters v || (powered_at taps v || stair_end R next v)) solid transparent

-- one occupied cell: "where the cell beneath is Air, a support; then wire where the cell is Air and no planned repeater"
unfoldable pub cell_laid : Room → ℕ → Bool → ℕ → Laid → Laid
cell_laid R support planned v L =
    let borne : Laid = laid_at support (beneath R v) L in either planned borne (laid_on redstone_wire v borne)

abbrev pub laid_cell : Room → (ℕ → List ℕ) → List Tap → List ℕ → ℕ → Laid → Laid
laid_cell R next taps repeaters v L = cell_laid R (support_kind R next taps repeaters v) (is_marked repeaters v) v L

-- ---- repeaters

-- "facing from the parent on the path from the source to the cell"; a parent u stands as u + 1, and 0 for none
unfoldable pub direction_of : Room → List ℕ → ℕ → ℕ
direction_of R parents v = either (eqb (get_or parents v 0) 0) no_facing (facing_of R (get_or parents v 0 - 1) v)

-- a planned repeater, "whatever stands there"
abbrev pub laid_repeater : Room → List ℕ → ℕ → Laid → Laid
laid_repeater R parents v L = placed repeater (direction_of R parents v) v L

-- "each BlockPower sink's terminal becomes a Repeater, whatever stands there, facing opposite to the sink's facing": that is from its approach, the
-- terminal plus the sink's facing, to its terminal (`power_faces`)
unfoldable pub laid_sink : Room → Tap → Laid → Laid
laid_sink R tap L = either tap.wire L (placed repeater (facing_of R tap.approach tap.terminal) tap.terminal L)

-- ---- the net

-- the cells of the room that are marked, in number order
abbrev pub marked_cells : Room → List ℕ → List ℕ
marked_cells R marks = cells_passing (is_marked marks) (volume R) 0

-- the cells next to a cell on any branch
abbrev pub next_on : Room → Net → ℕ → List ℕ
next_on R N = tree_neighbours N.branches (volume R)

-- and its parents from the source on
abbrev pub parents_on : Room → Net → List ℕ
parents_on R N = parents_from (next_on R N) (volume R) N.source

-- "First each occupied cell in number order ..; then the planned repeaters ascending ..; then each BlockPower sink's terminal .., sinks in sheet order"
unfoldable pub laid_net : Room → Net → Laid → Laid
laid_net R N L =
    along (laid_sink R) N.taps
    (along (laid_repeater R (parents_on R N)) (marked_cells R N.repeaters)
    (along (laid_cell R (next_on R N) N.taps N.repeaters) (marked_cells R N.occupied) L))

-- ---- whose the cells are: 0, or one more than the net's number

-- the cells that the net occupies become its own
unfoldable pub owned_by : ℕ → List ℕ → List ℕ → List ℕ
owned_by number occupied owners = with_byte (number + 1) (is_marked occupied) owners

-- "its least such cell": that it occupies and a lower net owns
unfoldable pub overlap_of : List ℕ → List ℕ → Option ℕ
overlap_of occupied owners = first_below (length occupied) (λ v. is_marked occupied v && not (eqb (get_or owners v 0) 0))
