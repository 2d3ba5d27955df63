-- Labels: what any way from a sink's approach to each cell costs at least, over every cell that some search of the sink's turn may enter, where supports
-- cost nothing. A label is stored one above the cost; 0 says that no way leads there. Definitions alone; that no way is cheaper is shown in LabelLaws.
use Rattle.std.specs.Prelude.{◌≡◌, ◌≢◌, Bool, true, List, ℕ, ◌+◌, ◌≤◌, ◌<◌, length, get_or, Some}
use Rattle.basics.specs.Lists.{In}
use Rattle.room.specs.declared.Room.{Room}
use Rattle.room.specs.declared.Move.{Move}
use Rattle.room.specs.declared.Pos.{Pos}
use Rattle.room.specs.declared.RouterConfig.{RouterConfig}
use Rattle.room.specs.Room.{Good, volume, above, moves, move_at, neighbour, neighbour_at}
use Rattle.room.specs.Units.{GoodConfig}
use Rattle.room_search.specs.Routing.{price_of}
use Rattle.room_search.specs.TriedMoves.{places_of}
use Rattle.routing_resources.specs.Marks.{is_marked}
use Rattle.ground.specs.declared.Ground.{Ground}
use Rattle.ground.specs.declared.Mode.{Mode}
use Rattle.blocked_world.specs.BlockedWorld.{class_seen, Says}

-- ---- the cells that are open

-- cell v is neither g nor right above it
abbrev pub Apart : Room → ℕ → ℕ → Type 0
Apart R g v = (v ≢ g) × (above R g ≢ Some v)

-- by these bytes a cell is open that can be entered by the turn's class bytes, that is joinable, or that stands right above a joinable cell of number
-- below n; every other cell has its class byte
pub record OpenedBelow (R : Room) (joinable classes bytes : List ℕ) (n : ℕ) : Type 0 where
  pub long : length bytes ≡ length classes
  pub as_before : (v : ℕ) → get_or classes v 0 ≢ 0 → get_or bytes v 0 ≢ 0
  pub goals : (g : ℕ) → g < n → is_marked joinable g ≡ true → get_or bytes g 0 ≢ 0
  pub over-goals : (g v : ℕ) → g < n → is_marked joinable g ≡ true → above R g ≡ Some v → get_or bytes v 0 ≢ 0
  pub others : (v : ℕ) → ((g : ℕ) → g < n → is_marked joinable g ≡ true → Apart R g v) → get_or bytes v 0 ≡ get_or classes v 0

-- of all joinable cells
abbrev pub Opened : Room → List ℕ → List ℕ → List ℕ → Type 0
Opened R joinable classes bytes = OpenedBelow R joinable classes bytes (volume R)

-- one cell and the one above it are opened, and no other is changed
pub record OpensBoth (R : Room) (cell : ℕ) (classes bytes : List ℕ) : Type 0 where
  pub long : length bytes ≡ length classes
  pub as_before : (v : ℕ) → get_or classes v 0 ≢ 0 → get_or bytes v 0 ≢ 0
  pub here : get_or bytes cell 0 ≢ 0
  pub over : (v : ℕ) → above R cell ≡ Some v → get_or bytes v 0 ≢ 0
  pub others : (v : ℕ) → Apart R cell v → get_or bytes v 0 ≡ get_or classes v 0

-- the bytes say again what is seen, but for joinable cells of number n or higher and the cells right above them
pub record ShutBelow (mode : Mode) (R : Room) (kinds joinable blocked : List ℕ) (start n : ℕ) (bytes : List ℕ) : Type 0 where
  pub long : length bytes ≡ volume R
  pub each : (v : ℕ) → v < volume R → ((g : ℕ) → n ≤ g → g < volume R → is_marked joinable g ≡ true → Apart R g v)
      → get_or bytes v 0 ≡ class_seen mode R kinds blocked start start v

-- ---- labels that no step undercuts

-- where a step of the move m, from a cell with this label, leads to an open cell, that cell has a label, and no higher one than by this step
abbrev pub MoveAgrees : RouterConfig → List ℕ → List ℕ → ℕ → Move → ℕ → Type 0
MoveAgrees C bytes labels label m v = get_or bytes v 0 ≢ 0 → (0 < get_or labels v 0) × (get_or labels v 0 ≤ label + (price_of C m 0).step.0)

-- a start that is labelled with cost 0, and no step that undercuts a label
pub record Labels (R : Room) (C : RouterConfig) (bytes : List ℕ) (start : ℕ) (labels : List ℕ) : Type 0 where
  pub start_none : get_or labels start 0 ≡ 1
  pub agree : (u : ℕ) → u < volume R → 0 < get_or labels u 0 → (m : Move) → In m moves → (v : ℕ) → neighbour R u m ≡ Some v
      → MoveAgrees C bytes labels (get_or labels u 0) m v

-- ---- what the contracts cite

-- the room, its open cells and the labels fit together
pub record Fits (R : Room) (C : RouterConfig) (bytes labels : List ℕ) : Type 0 where
  pub good : Good R
  pub config-good : GoodConfig R C
  pub bytes-long : length bytes ≡ volume R
  pub labels_long : length labels ≡ volume R

-- where the answer is yes, the move m from this position and label agrees
pub record MoveTold (R : Room) (C : RouterConfig) (bytes labels : List ℕ) (at : Pos) (label : ℕ) (m : Move) (r : Bool) : Type 0 where
  pub told : r ≡ true → (v : ℕ) → neighbour_at R at m ≡ Some v → MoveAgrees C bytes labels label m v

-- the moves below k from this position and label agree
pub record MovesAgree (R : Room) (C : RouterConfig) (bytes labels : List ℕ) (at : Pos) (label k : ℕ) : Type 0 where
  pub agree : (j : ℕ) → j < k → (v : ℕ) → neighbour_at R at (move_at j) ≡ Some v → MoveAgrees C bytes labels label (move_at j) v

-- where the answer is yes, all moves of this cell agree, if it has a label
pub record CellTold (R : Room) (C : RouterConfig) (bytes labels : List ℕ) (u : ℕ) (r : Bool) : Type 0 where
  pub told : r ≡ true → 0 < get_or labels u 0 → (m : Move) → In m moves → (v : ℕ) → neighbour R u m ≡ Some v → MoveAgrees C bytes labels (get_or labels u 0) m v

-- the cells below n agree
pub record CellsAgree (R : Room) (C : RouterConfig) (bytes labels : List ℕ) (n : ℕ) : Type 0 where
  pub agree : (u : ℕ) → u < n → 0 < get_or labels u 0 → (m : Move) → In m moves → (v : ℕ) → neighbour R u m ≡ Some v
      → MoveAgrees C bytes labels (get_or labels u 0) m v

-- where the answer is yes, these are labels
pub record LabelsTold (R : Room) (C : RouterConfig) (bytes : List ℕ) (start : ℕ) (labels : List ℕ) (r : Bool) : Type 0 where
  pub told : r ≡ true → Labels R C bytes start labels

-- what labelling asks at a sink's turn: the class bytes say what is seen from the start, with no goal beside it
pub record Labelable (G : Ground) (kinds joinable blocked classes known previous queue : List ℕ) (start : ℕ) : Type 0 where
  pub good : Good G.room
  pub config-good : GoodConfig G.room G.config
  pub kinds-long : length kinds ≡ volume G.room
  pub joinable-long : length joinable ≡ volume G.room
  pub blocked-long : length blocked ≡ volume G.room
  pub known-long : length known ≡ volume G.room
  pub previous-long : length previous ≡ volume G.room
  pub start_in : start < volume G.room
  pub places-some : 0 < places_of queue
  pub says : Says G.mode G.room kinds blocked start start classes

-- labels over all that is open at the turn
pub record TurnLabels (R : Room) (C : RouterConfig) (joinable classes : List ℕ) (start : ℕ) (labels : List ℕ) : Type 0 where
  pub bytes : List ℕ
  pub opened : Opened R joinable classes bytes
  pub are : Labels R C bytes start labels

-- where the answer is yes, these are the turn's labels
pub record TurnTold (R : Room) (C : RouterConfig) (joinable classes : List ℕ) (start : ℕ) (labels : List ℕ) (r : Bool) : Type 0 where
  pub told : r ≡ true → TurnLabels R C joinable classes start labels
