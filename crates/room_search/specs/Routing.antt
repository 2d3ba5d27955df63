-- docs/RULES.md, One search, in its order: which cells may be entered and what that costs make a graph of the room, and the search is
-- `best_first` over that graph. Definitions alone.
use Rattle.std.specs.Prelude.{Bool, true, false, not, ◌||◌, List, [], ◌∷◌, ◌++◌, ℕ, ◌+◌, ◌*◌, ◌/◌, eqb, get_or, Option, Some, None}
use Rattle.basics.specs.Tests.{either}
use Rattle.room.specs.declared.Room.{Room}
use Rattle.room.specs.declared.Move.{Move}
use Rattle.room.specs.declared.RouterConfig.{RouterConfig}
use Rattle.room.specs.Room.{volume, moves, neighbour, beneath, distance, flat}
use Rattle.room.specs.Units.{air, solid, transparent, redstone_wire, redstone_block}
use Rattle.best_first.specs.Search
use Rattle.best_first.specs.Search.{Graph, Answer, best_first}
use Rattle.room_search.specs.declared.Price.{Price}

-- a queue of so many numbers holds half as many places: two numbers a place
abbrev pub places_in : ℕ → ℕ
places_in longs = longs / 2

-- What one search is over: a room, what steps cost in it and how many cells may be expanded, the kind of each cell (one for each
-- number below V), the two ends, and the places of the queue
pub record Task : Type 0 where
  pub room : Room
  pub config : RouterConfig
  pub kinds : List ℕ
  pub start : ℕ
  pub goal : ℕ
  pub places : ℕ

-- "Everything outside is Solid."
abbrev pub kind_at : List ℕ → Option ℕ → ℕ
kind_at kinds (Some v) = get_or kinds v air
kind_at kinds None = solid

-- "A cell is routeable if Air; start and goal may also hold RedstoneWire."
unfoldable pub routeable_kind : Bool → ℕ → Bool
routeable_kind isEnd kind = either (eqb kind air) true (either isEnd (eqb kind redstone_wire) false)

abbrev pub an_end : ℕ → ℕ → ℕ → Bool
an_end start goal v = eqb v start || eqb v goal

unfoldable pub routeable : Task → ℕ → Bool
routeable T v = routeable_kind (an_end T.start T.goal v) (get_or T.kinds v air)

-- "The cell beneath an entered cell must be Air, Solid, Transparent or RedstoneBlock. Air adds the new-support cost."
-- 0: nothing that bears; 1: a support; 2: air, where a support is to be laid
unfoldable pub bearing : ℕ → ℕ
bearing kind =
    either (eqb kind air) 2 (either (eqb kind solid) 1 (either (eqb kind transparent) 1 (either (eqb kind redstone_block) 1 0)))

-- what it takes to enter a cell of that kind, by what stands beneath it. 0: it can't be entered; 1: the step alone; 2: the step and a new support
unfoldable pub class_for : Bool → ℕ → ℕ → ℕ
class_for isEnd kind below = either (routeable_kind isEnd kind) (bearing below) 0

-- the class of a cell, as one of the ends or not
abbrev pub class_at : Bool → Room → List ℕ → ℕ → ℕ
class_at isEnd R kinds v = class_for isEnd (get_or kinds v air) (kind_at kinds (beneath R v))

-- a cell of that class can be entered
abbrev pub can_enter : ℕ → Bool
can_enter class = not (eqb class 0)

-- what it takes to enter a cell in that search
abbrev pub entering : Task → ℕ → ℕ
entering T v = class_at (an_end T.start T.goal v) T.room T.kinds v

-- "Flat step: horizontal cost. Otherwise: stair cost." The price of a step is a pair: the step, and the new support
unfoldable pub price_of : RouterConfig → Move → ℕ → Price
price_of C m class = record {
  step = record { 0 = either (flat m) C.horizontal.0 C.stair.0 };
  support = record { 0 = either (eqb class 2) C.support.0 0 };
}

abbrev pub total : Price → ℕ
total p = p.step.0 + p.support.0

-- the moves out of a cell, of a room whose cells have classes: what it takes to enter each, as above
abbrev pub move_into : RouterConfig → (ℕ → ℕ) → Move → Option ℕ → List Search.Move
move_into C class m (Some v) = either (eqb (class v) 0) [] (record { to = v; cost = total (price_of C m (class v)) } ∷ [])
move_into C class m None = []

unfoldable pub moves_by : Room → RouterConfig → (ℕ → ℕ) → ℕ → List Move → List Search.Move
moves_by R C class u [] = []
moves_by R C class u (m ∷ ms) = move_into C class m (neighbour R u m) ++ moves_by R C class u ms

-- the estimate: "10 times |dx|+|dy|+|dz| to the goal"
abbrev pub estimate_of : ℕ → ℕ
estimate_of far = 10 * far

-- the graph of a room whose cells have classes
unfoldable pub graph_of : Room → RouterConfig → (ℕ → ℕ) → ℕ → ℕ → ℕ → Graph
graph_of R C class start goal places = record {
  moves = λ u. moves_by R C class u moves;
  estimate = λ u. estimate_of (distance R u goal);
  size = volume R;
  start = start;
  goal = goal;
  places = places;
}

-- the graph that is searched
abbrev pub graph : Task → Graph
graph T = graph_of T.room T.config (entering T) T.start T.goal T.places

-- the defined search
unfoldable pub searched : Task → Answer
searched T = best_first (graph T) T.config.limit.0
