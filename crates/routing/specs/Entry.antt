-- What the contracts of the public search's parts cite.
use Rattle.std.specs.Prelude.{◌≡◌, true, List, [], ◌++◌, ℕ, ◌≤◌, ◌<◌, pred, length, get_or, drop, Result, Ok, Err, ⊤}
use Rattle.room.specs.declared.Room.{Room}
use Rattle.room.specs.declared.RouterConfig.{RouterConfig}
use Rattle.room.specs.Room.{Good, volume}
use Rattle.basics.specs.Tests.{either}
use Rattle.lent.specs.Lent.{Cleared, filled}
use Rattle.room.specs.Units.{GoodConfig, air}
use Rattle.room_search.specs.declared.Outcome.{Outcome}
use Rattle.best_first.specs.Search.{trace}
use Rattle.room.specs.declared.Nodes.{Nodes}
use Rattle.routing.specs.declared.Lengths.{Lengths}
use Rattle.routing.specs.declared.Route.{Route}
use Rattle.routing.specs.Answers.{Answer}
use Rattle.room_search.specs.Routing.{Task, places_in, routeable_kind, graph, searched}
use Rattle.room_search.specs.Takings.{OutcomeTold, Searchable}
use Rattle.routing.specs.Totals.{totals_of}
use Rattle.routing.specs.Answers.{task_in, route_in, answered, cells_of}

-- what an input has that no number from 2 to 6 refuses, with work memory of exactly V cells
pub record RoomSearchable (R : Room) (C : RouterConfig) (kinds : List ℕ) (start goal : ℕ) (known previous classes queue : List ℕ) : Type 0 where
  pub kinds-long : length kinds ≡ volume R
  pub memory : Searchable R C classes known previous queue start goal

-- the outcome is the defined search's
pub record SearchFound (T : Task) (o : Outcome) (known previous : List ℕ) : Type 0 where
  pub told : OutcomeTold (graph T) (searched T) known previous o

-- what showing a route asks: a good room and config, a kind for each cell, as many predecessors and known costs, and a path buffer that is long enough
pub record Shown (R : Room) (C : RouterConfig) (kinds : List ℕ) (goal : ℕ) (known previous path : List ℕ) : Type 0 where
  pub good : Good R
  pub config-good : GoodConfig R C
  pub kinds-long : length kinds ≡ volume R
  pub previous-long : length previous ≡ volume R
  pub known-long : length known ≡ volume R
  pub goal_in : goal < volume R
  pub path-enough : volume R ≤ length path

-- the answer, and the path written to a cleared buffer
pub record RouteShown (R : Room) (C : RouterConfig) (kinds : List ℕ) (o : Outcome) (goal : ℕ) (known previous path : List ℕ) (r : Answer) (path' : List ℕ) : Type 0 where
  pub shows : (start places : ℕ) → SearchFound (task_in R C kinds start goal places) o known previous
      → (r ≡ answered (task_in R C kinds start goal places) (searched (task_in R C kinds start goal places)))
      × (path' ≡ filled (cells_of (searched (task_in R C kinds start goal places))) path)

-- the path by predecessors
abbrev pub traced : List ℕ → ℕ → List ℕ
traced previous goal = trace (length previous) previous goal []

-- the path by predecessors, the goal's known cost, and the path's totals
pub record RouteWritten (R : Room) (C : RouterConfig) (kinds : List ℕ) (goal : ℕ) (known previous path : List ℕ) (expanded : Nodes) (r : Route) (path' : List ℕ) : Type 0 where
  pub route-is : r ≡ route_in (totals_of R C kinds (traced previous goal)) (length (traced previous goal)) (pred (get_or known goal 0)) expanded.0
  pub path-is : path' ≡ traced previous goal ++ drop (length (traced previous goal)) path

-- whether both ends are routeable, or which is not
abbrev pub EndsFit : Type 0
EndsFit = Result ⊤ ℕ

-- which end is not routeable: the start, else the goal
abbrev pub ends_fit : List ℕ → ℕ → ℕ → EndsFit
ends_fit kinds start goal =
    either (routeable_kind true (get_or kinds start air)) (either (routeable_kind true (get_or kinds goal air)) (Ok tt) (Err goal)) (Err start)

-- what an input has that no number from 2 to 6 refuses
pub record Admitted (R : Room) (C : RouterConfig) (kinds : List ℕ) (start goal : ℕ) (L : Lengths) : Type 0 where
  pub good : Good R
  pub config-good : GoodConfig R C
  pub kinds-long : length kinds ≡ volume R
  pub start_in : start < volume R
  pub goal_in : goal < volume R
  pub path-enough : volume R ≤ L.path
  pub known-enough : volume R ≤ L.known
  pub previous-enough : volume R ≤ L.previous
  pub classes-enough : volume R ≤ L.classes
  pub places-some : 0 < places_in L.queue

-- a search's answer, its path in the cleared output, and all work memory cleared
pub record Fitted (T : Task) (path known previous classes queue : List ℕ) (r : Answer) (path' known' previous' classes' queue' : List ℕ) : Type 0 where
  pub answer : r ≡ answered T (searched T)
  pub path-is : path' ≡ filled (cells_of (searched T)) path
  pub known_is : Cleared known known'
  pub previous-is : Cleared previous previous'
  pub classes-is : Cleared classes classes'
  pub queue-is : Cleared queue queue'
