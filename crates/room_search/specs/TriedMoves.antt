-- What the contracts of the search's inner functions cite. Each of them tries some of a cell's moves; whoever runs a search that is trying those
-- moves goes on from the work memory as it was to the work memory as it is.
use Rattle.std.specs.Prelude.{◌≡◌, ◌≢◌, List, [], ◌∷◌, ◌++◌, ℕ, ◌+◌, ◌*◌, ◌^◌, ◌≤◌, ◌<◌, length, get_or, Option, Some, None, Result, Ok, Err}
use Rattle.room.specs.declared.Room.{Room}
use Rattle.room.specs.declared.Move.{Move}
use Rattle.room.specs.declared.RouterConfig.{RouterConfig}
use Rattle.room.specs.Room.{by, max_volume, volume, neighbour}
use Rattle.room.specs.Units.{max_cost, max_product, dearest}
use Rattle.best_first.specs.Search
use Rattle.best_first.specs.Search.{Graph, Pushed, full}
use Rattle.best_first.specs.Ways.{Sound}
use Rattle.best_first.proofs.Loops.{Trying}
use Rattle.room_search.specs.declared.Width.{Width}
use Rattle.room_search.specs.declared.Width.TheVariants.{One}
use Rattle.room_search.specs.declared.Spot.{Spot}
use Rattle.room_search.specs.declared.Reached.{Reached}
use Rattle.room_search.specs.declared.Field.{Field}
use Rattle.room_search.specs.declared.Work.{Work}
use Rattle.room_search.specs.declared.QueueFull.{QueueFull}
use Rattle.room_search.specs.Routing.{places_in, total, price_of, moves_by, graph_of}
use Rattle.room_search.specs.Fields.{Placed}
use Rattle.room_search.specs.Held.{HeapIn, held}

-- the places of a queue
abbrev pub places_of : List ℕ → ℕ
places_of queue = places_in (length queue)

-- no known cost is higher: each is at most V - 1 of the dearest steps with a new support
abbrev pub max_known : ℕ
max_known = max_product

-- the queue's first places are a heap
pub record HeapReady (s : Work) : Type 0 where
  pub heap : HeapIn s.line.width s.queue.now s.line.waiting
  pub fits : s.line.waiting ≤ places_of s.queue.now

-- the same memory is lent, of the same lengths
pub record Kept (s t : Work) : Type 0 where
  pub known-is : t.known.ghost_name ≡ s.known.ghost_name
  pub previous-is : t.previous.ghost_name ≡ s.previous.ghost_name
  pub queue-is : t.queue.ghost_name ≡ s.queue.ghost_name
  pub known-long : length t.known.now ≡ length s.known.now
  pub previous-long : length t.previous.now ≡ length s.previous.now
  pub queue-long : length t.queue.now ≡ length s.queue.now

-- a search that is trying the moves of a cell: what all of them come to, and how many cells it has expanded
pub record Expansion : Type 0 where
  pub graph : Graph
  pub degree : ℕ
  pub dearest : ℕ
  pub sound : Sound graph degree dearest
  pub cell : ℕ
  pub cost : ℕ
  pub outcome : Pushed
  pub expanded : ℕ

-- the moves `due` are still to be tried in the state that the work memory holds
abbrev pub Stage : Expansion → List Search.Move → Work → Type 0
Stage A due s = Trying A.graph A.degree A.dearest A.cell A.cost A.outcome due (held s A.expanded)

-- what trying moves comes to: the search goes on, or a push found the queue full
abbrev pub Tried : Type 0
Tried = Result (Unit {0}) QueueFull

-- what a function that tries moves answers, where `rest` is left to be tried
abbrev pub AfterMoves : Expansion → List Search.Move → Tried → Work → Type 0
AfterMoves A rest (Ok x) s = Stage A rest s
AfterMoves A rest (Err e) s = A.outcome ≡ full

-- one number holds an entry only where the keys of every search fit
pub record WidthFits (R : Room) (C : RouterConfig) (width : Width) : Type 0 where
  pub keys : width ≡ One → volume R * dearest C + 10000 ≤ 2 ^ 24

-- the queue is ready for the next move, its entries held as before, unless it was found full
abbrev pub Readied : Width → ℕ → Tried → Work → Type 0
Readied width most (Ok x) s = HeapReady s × (s.line.serial ≤ most) × (s.line.width ≡ width)
Readied width most (Err e) s = Unit {0}

-- what an offer asks of its parameters
pub record Offerable (u : ℕ) (to : Reached) (s : Work) : Type 0 where
  pub cell_in : to.spot.cell < length s.known.now
  pub previous-long : length s.previous.now ≡ length s.known.now
  pub few : length s.known.now ≤ max_volume
  pub from_in : u < max_volume
  pub cost-most : to.cost.0 ≤ max_known + 2 * max_cost
  pub serial-most : s.line.serial + 1 < 2 ^ 24
  pub key_in_one : s.line.width ≡ One → to.cost.0 + 10000 ≤ 2 ^ 24
  pub ready : HeapReady s

-- one move, from u to a cell at a cost
pub record Offered (u : ℕ) (to : Reached) (estimate : ℕ) (s : Work) (r : Tried) (t : Work) : Type 0 where
  pub readied : Readied s.line.width (s.line.serial + 1) r t
  pub goes : (A : Expansion) (m : Search.Move) (ms : List Search.Move) → A.cell ≡ u → m.to ≡ to.spot.cell → A.cost + m.cost ≡ to.cost.0
      → A.graph.estimate to.spot.cell ≡ estimate → A.graph.places ≡ places_of s.queue.now → Stage A (m ∷ ms) s → AfterMoves A ms r t

-- the cell whose moves are tried, in its field
pub record Setting : Type 0 where
  pub field : Field
  pub places : ℕ
  pub from : Reached

abbrev pub due_of : Setting → List Move → List Search.Move
due_of S ms = moves_by S.field.room S.field.config (λ v. get_or S.field.classes.now v 0) S.from.spot.cell ms

-- the expansion is of that cell, in the graph of that room
pub record Fitting (S : Setting) (A : Expansion) : Type 0 where
  pub start : ℕ
  pub graph_is : A.graph ≡ graph_of S.field.room S.field.config (λ v. get_or S.field.classes.now v 0) start S.field.goal.cell S.places
  pub cell-is : A.cell ≡ S.from.spot.cell
  pub cost-is : A.cost ≡ S.from.cost.0

-- the moves `tried` of that cell
pub record MovesCame (S : Setting) (tried : List Move) (s : Work) (r : Tried) (t : Work) : Type 0 where
  pub readied : Readied s.line.width (s.line.serial + length tried) r t
  pub goes : (A : Expansion) → Fitting S A → (ms : List Move) → Stage A (due_of S (tried ++ ms)) s → AfterMoves A (due_of S ms) r t

abbrev pub setting : Field → Work → Reached → Setting
setting F s from = record { field = F; places = places_of s.queue.now; from = from }

-- the three moves aside, as m goes: down, level, up
abbrev pub column : Move → List Move
column m = by m.x 0 m.z ∷ by m.x 1 m.z ∷ by m.x 2 m.z ∷ []

-- the cell aside on the same level, as m goes
pub record Aside (R : Room) (from beside : Spot) (m : Move) : Type 0 where
  pub there : Placed R beside
  pub x_by : beside.at.x + 1 ≡ from.at.x + m.x
  pub level : beside.at.y ≡ from.at.y
  pub z_by : beside.at.z + 1 ≡ from.at.z + m.z

-- it is told where it is in the room; elsewhere none of the three moves stays in the room
abbrev pub Beside : Room → Spot → Move → Option Spot → Type 0
Beside R from m (Some beside) = Aside R from beside m
Beside R from m None = (y : ℕ) → neighbour R from.cell (by m.x y m.z) ≡ None

-- the move m leads to a cell that can be entered, at that cost
pub record StepTo (F : Field) (from : Reached) (m : Move) (to : Reached) : Type 0 where
  pub leads : neighbour F.room from.spot.cell m ≡ Some to.spot.cell
  pub enterable : get_or F.classes.now to.spot.cell 0 ≢ 0
  pub costs : to.cost.0 ≡ from.cost.0 + total (price_of F.config m (get_or F.classes.now to.spot.cell 0))
  pub there : Placed F.room to.spot

-- it leads out of the room, or into a cell that can't be entered
pub data NoStep (F : Field) (from : Reached) (m : Move) : Type 0 where
  out : neighbour F.room from.spot.cell m ≡ None → NoStep F from m
  shut : (v : ℕ) → neighbour F.room from.spot.cell m ≡ Some v → get_or F.classes.now v 0 ≡ 0 → NoStep F from m

abbrev pub Stepped : Field → Reached → Move → Option Reached → Type 0
Stepped F from m (Some to) = StepTo F from m to
Stepped F from m None = NoStep F from m

-- what these functions ask of their parameters to try so many moves
pub record Able (tries : ℕ) (F : Field) (from : Reached) (s : Work) : Type 0 where
  pub known-long : length s.known.now ≡ volume F.room
  pub previous-long : length s.previous.now ≡ volume F.room
  pub from-placed : Placed F.room from.spot
  pub cost-most : from.cost.0 ≤ max_known
  pub serial-most : s.line.serial + tries < 2 ^ 24
  pub key_in_one : s.line.width ≡ One → from.cost.0 + dearest F.config + 10000 ≤ 2 ^ 24
  pub ready : HeapReady s
