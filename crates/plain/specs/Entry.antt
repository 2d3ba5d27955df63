-- What the contracts of the public engine's parts cite.
use Rattle.std.specs.Prelude.{◌≡◌, List, ℕ, ◌≤◌, ◌<◌, length}
use Rattle.lent.specs.Lent.{Cleared, filled}
use Rattle.room.specs.Room.{Good, volume}
use Rattle.room.specs.Units.{dearest, GoodConfig}
use Rattle.best_first.specs.Search.{Graph}
use Rattle.sweeps.specs.Sweeps.{ReachedCount, Grounded, AtRest}
use Rattle.room_search.specs.Routing.{Task, places_in, graph}
use Rattle.routing.specs.Answers.{task_in}
use Rattle.plain.specs.declared.Errand.{Errand}
use Rattle.plain.specs.Answers.{PlainAnswer}
use Rattle.plain.specs.Answers.{unused_queue, Found}

-- the errand over a room of kinds
abbrev pub task_on : Errand → List ℕ → Task
task_on E kinds = task_in E.room E.config kinds E.start E.goal (places_in unused_queue)

-- what an input has that no number from 2 to 6 refuses
pub record ErrandPosed (E : Errand) (kinds : List ℕ) : Type 0 where
  pub good : Good E.room
  pub config-good : GoodConfig E.room E.config
  pub kinds-long : length kinds ≡ volume E.room
  pub start_in : E.start < volume E.room
  pub goal_in : E.goal < volume E.room

-- with memory of exactly V cells
pub record RoomReady (E : Errand) (kinds known previous classes : List ℕ) : Type 0 where
  pub posed : ErrandPosed E kinds
  pub known-long : length known ≡ volume E.room
  pub previous-long : length previous ≡ volume E.room
  pub classes-long : length classes ≡ volume E.room

-- nothing gets cheaper any more in the room's graph, after so many sweeps: at most as many as cells are reached
pub record RoomSettled (E : Errand) (kinds known previous : List ℕ) (sweeps : ℕ) : Type 0 where
  pub kept : Grounded (graph (task_on E kinds)) (dearest E.config) known previous
  pub rest : AtRest (graph (task_on E kinds)) known
  pub few : (k : ℕ) → ReachedCount (graph (task_on E kinds)) k → sweeps ≤ k

-- the answer, and the path written to a cleared buffer
pub record RestShown (goal : ℕ) (known previous path : List ℕ) (r : PlainAnswer) (path' : List ℕ) : Type 0 where
  pub cells : List ℕ
  pub path-is : path' ≡ filled cells path
  pub found : (G : Graph) (D : ℕ) → G.size ≡ length previous → G.goal ≡ goal → Grounded G D known previous → AtRest G known → Found G r cells

-- with memory of V cells or more
pub record Admits (E : Errand) (kinds path known previous classes : List ℕ) : Type 0 where
  pub posed : ErrandPosed E kinds
  pub path-enough : volume E.room ≤ length path
  pub known-enough : volume E.room ≤ length known
  pub previous-enough : volume E.room ≤ length previous
  pub classes-enough : volume E.room ≤ length classes

-- the answer, its path in the cleared output, and all work memory cleared
pub record Fitted (E : Errand) (kinds path known previous classes : List ℕ) (r : PlainAnswer) (path' known' previous' classes' : List ℕ) : Type 0 where
  pub cells : List ℕ
  pub found : Found (graph (task_on E kinds)) r cells
  pub path-is : path' ≡ filled cells path
  pub known_is : Cleared known known'
  pub previous-is : Cleared previous previous'
  pub classes-is : Cleared classes classes'
