-- What the contracts of the search's outer functions cite: one taking, and all of them.
use Rattle.std.specs.Prelude.{◌≡◌, List, [], ℕ, ◌+◌, ◌≤◌, ◌<◌, ◌^◌, pred, length, get_or, replicate}
use Rattle.room.specs.declared.Room.{Room}
use Rattle.room.specs.declared.RouterConfig.{RouterConfig}
use Rattle.room.specs.Room.{Good, volume, pos_of}
use Rattle.room.specs.Units.{dearest, GoodConfig}
use Rattle.basics.specs.Lists.{In}
use Rattle.trace.specs.Traces.{PreviousInside}
use Rattle.best_first.specs.Search.{Graph, Answer, Entry, trace, route, no_route, limit-passed, queue-full, best_first}
use Rattle.best_first.proofs.Loops.{Going}
use Rattle.std.specs.declared.ops.ControlFlow.{ControlFlow}
use Rattle.std.specs.declared.ops.ControlFlow.TheVariants.{Continue, Break}
use Rattle.room_search.specs.declared.Width.{Width}
use Rattle.room_search.specs.declared.Width.TheVariants.{One}
use Rattle.room_search.specs.declared.Field.{Field}
use Rattle.room_search.specs.declared.Work.{Work}
use Rattle.room_search.specs.declared.Spot.{Spot}
use Rattle.room_search.specs.declared.Outcome.{Outcome}
use Rattle.room_search.specs.declared.Outcome.TheVariants.{Arrived, NoRoute, LimitPassed, QueueFull}
use Rattle.room_search.specs.Routing.{graph_of}
use Rattle.room_search.specs.Held.{entries_in, held}
use Rattle.room_search.specs.Fields.{Placed}
use Rattle.room_search.specs.TriedMoves.{max_known, places_of, HeapReady, WidthFits}

-- the graph of a room, with the classes in bytes and the places of a lent queue
abbrev pub graph_in : Room → RouterConfig → List ℕ → ℕ → ℕ → List ℕ → Graph
graph_in R C classes start goal queue = graph_of R C (λ v. get_or classes v 0) start goal (places_of queue)

-- that of a field
abbrev pub graph_over : Field → ℕ → List ℕ → Graph
graph_over F start queue = graph_in F.room F.config F.classes.now start F.goal.cell queue

-- what one taking asks of its parameters
pub record Takeable (F : Field) (s : Work) : Type 0 where
  pub known-long : length s.known.now ≡ volume F.room
  pub previous-long : length s.previous.now ≡ volume F.room
  pub some : 0 < s.line.waiting
  pub ready : HeapReady s
  pub cells : (e : Entry) → In e (entries_in s.line.width s.queue.now s.line.waiting) → (e.cell < volume F.room) × (0 < get_or s.known.now e.cell 0)
  pub costs : (v : ℕ) → get_or s.known.now v 0 ≤ max_known + 1
  pub serial-most : s.line.serial + 12 < 2 ^ 24
  pub keys_in_one : s.line.width ≡ One → (v : ℕ) → get_or s.known.now v 0 + dearest F.config + 10000 ≤ 2 ^ 24 + 1

-- the goal is taken: the path by predecessors, and the goal's known cost
pub record Arrival (G : Graph) (answer : Answer) (known previous : List ℕ) (expanded : ℕ) : Type 0 where
  pub is : answer ≡ route (trace G.size previous G.goal []) (pred (get_or known G.goal 0)) expanded
  pub previous-inside : (v : ℕ) → get_or previous v 0 ≤ G.size
  pub reached : 0 < get_or known G.goal 0

-- what the outcome says of the search's answer
abbrev pub OutcomeTold : Graph → Answer → List ℕ → List ℕ → Outcome → Type 0
OutcomeTold G answer known previous (Arrived x) = Arrival G answer known previous x.0
OutcomeTold G answer known previous (NoRoute x) = answer ≡ no_route x.0
OutcomeTold G answer known previous (LimitPassed x) = answer ≡ limit-passed x.0
OutcomeTold G answer known previous (QueueFull x) = answer ≡ queue-full x.0

-- what a taking has come to
abbrev pub Went : Graph → ℕ → Answer → ℕ → Width → ControlFlow Outcome (Unit {0}) → Work → Type 0
Went G limit answer expanded width (Continue x) s = Going G limit answer (held s (expanded + 1)) × HeapReady s × (s.line.width ≡ width)
Went G limit answer expanded width (Break o) s = OutcomeTold G answer s.known.now s.previous.now o

-- one taking, for every search that has come this far: it goes on to the same answer, or that answer is told
pub record TakingCame (F : Field) (s : Work) (expanded : ℕ) (r : ControlFlow Outcome (Unit {0})) (t : Work) : Type 0 where
  pub goes : (start : ℕ) (answer : Answer) → start < volume F.room
      → Going (graph_over F start s.queue.now) F.config.limit.0 answer (held s expanded)
      → Went (graph_over F start s.queue.now) F.config.limit.0 answer expanded s.line.width r t

-- what a whole search asks of its parameters: nothing is known yet, and nothing waits
pub record Fresh (F : Field) (s : Work) (start : Spot) : Type 0 where
  pub known_zero : s.known.now ≡ replicate (volume F.room) 0
  pub previous_zero : s.previous.now ≡ replicate (volume F.room) 0
  pub start-placed : Placed F.room start
  pub places-some : 0 < places_of s.queue.now
  pub none-wait : s.line.waiting ≡ 0
  pub serial_zero : s.line.serial ≡ 0
  pub width_fits : WidthFits F.room F.config s.line.width

-- a cell with its position
abbrev pub spot_of : Room → ℕ → Spot
spot_of R v = record { cell = v; at = pos_of R v }

-- what a search over class bytes asks, whatever its memory holds: work memory of exactly V cells, and a place in the queue
pub record Searchable (R : Room) (C : RouterConfig) (classes known previous queue : List ℕ) (start goal : ℕ) : Type 0 where
  pub good : Good R
  pub config-good : GoodConfig R C
  pub classes-long : length classes ≡ volume R
  pub known-long : length known ≡ volume R
  pub previous-long : length previous ≡ volume R
  pub start_in : start < volume R
  pub goal_in : goal < volume R
  pub places-some : 0 < places_of queue

-- the outcome of a whole search is what the definition says
pub record SearchRan (R : Room) (C : RouterConfig) (classes queue : List ℕ) (start goal : Spot) (o : Outcome) (known' previous' : List ℕ) : Type 0 where
  pub told : OutcomeTold (graph_in R C classes start.cell goal.cell queue)
      (best_first (graph_in R C classes start.cell goal.cell queue) C.limit.0) known' previous' o

-- what the outcome asks of the slices, so that the path can be written
abbrev pub Showable : Outcome → ℕ → List ℕ → List ℕ → Type 0
Showable (Arrived x) goal known previous = PreviousInside previous × (0 < get_or known goal 0)
Showable (NoRoute x) goal known previous = Unit {0}
Showable (LimitPassed x) goal known previous = Unit {0}
Showable (QueueFull x) goal known previous = Unit {0}
