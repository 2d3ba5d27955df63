-- What the contracts of the goals' functions cite.
use Rattle.std.specs.Prelude.{◌≡◌, Bool, true, false, ◌&&◌, List, ℕ, ◌≤◌, ◌<◌, eqb, length, get_or, take, Option, Some, None, Result, Ok, Err}
use Rattle.room.specs.declared.Room.{Room}
use Rattle.room.specs.declared.RouterConfig.{RouterConfig}
use Rattle.room.specs.Room.{Good, volume}
use Rattle.room.specs.Units.{GoodConfig, air}
use Rattle.best_first.specs.Search.{Graph, Answer}
use Rattle.room_search.specs.declared.Outcome.{Outcome}
use Rattle.room_search.specs.Routing.{routeable_kind}
use Rattle.room_search.specs.TriedMoves.{places_of}
use Rattle.room_search.specs.Takings.{OutcomeTold}
use Rattle.routing_resources.specs.Marks.{is_marked, marked_by, Marks}
use Rattle.geometry.specs.Geometry.{NoPair}
use Rattle.ground.specs.declared.Mode.{Mode}
use Rattle.ground.specs.declared.Ground.{Ground}
use Rattle.blocked_world.specs.BlockedWorld.{seen_task, Says}
use Rattle.goals.specs.declared.Turn.{Turn}
use Rattle.goals.specs.declared.Found.{Found}
use Rattle.goals.specs.declared.QueueFull.{QueueFull}
use Rattle.goals.specs.declared.Unended.{Unended}
use Rattle.goals.specs.declared.Unended.TheVariants.{Conflict, Full}
use Rattle.goals.specs.Goals.{Site, Trial, found, failed, full, trial_of, searched_for, attempt_then, cheaper_route}

-- what a goal comes to, as the code has it: a route, none, or a full queue
abbrev pub Tried : Type 0
Tried = Result (Option Found) QueueFull

-- what an answer says, with the buffer that has the path's cells at its front
abbrev pub told : Tried → List ℕ → Trial
told (Ok (Some f)) cells = found (take f.length cells) f.cost.0
told (Ok None) cells = failed
told (Err x) cells = full x.0.0

-- how many cells the path has
abbrev pub length_of : Tried → ℕ
length_of (Ok (Some f)) = f.length
length_of (Ok None) = 0
length_of (Err x) = 0

pub record Tells (trial : Trial) (r : Tried) (cells : List ℕ) : Type 0 where
  pub is : told r cells ≡ trial
  pub fits : length_of r ≤ length cells

-- ---- one search

-- both ends are routeable; an end is never blocked for its own search
abbrev pub both_routeable : List ℕ → ℕ → ℕ → Bool
both_routeable kinds start goal = routeable_kind true (get_or kinds start air) && routeable_kind true (get_or kinds goal air)

-- what is made of a search's outcome: the answer, and the path where there is one
pub record TriedOf (o : Outcome) (goal : ℕ) (known previous : List ℕ) (r : Tried) (cells : List ℕ) : Type 0 where
  pub shows : (G : Graph) (answer : Answer) → G.size ≡ length previous → G.goal ≡ goal → OutcomeTold G answer known previous o → Tells (trial_of answer) r cells

-- in any mode and whatever is blocked: where the class bytes say what is seen, it is the search over that
pub record SearchTold (R : Room) (C : RouterConfig) (kinds classes queue : List ℕ) (start goal : ℕ) (r : Tried) (cells : List ℕ) : Type 0 where
  pub tells : (mode : Mode) (blocked : List ℕ) → Says mode R kinds blocked start goal classes
      → Tells (searched_for (seen_task mode R C kinds blocked start goal (places_of queue))) r cells

-- ---- one attempt

abbrev pub site_of : Ground → List ℕ → List ℕ → List ℕ → Site
site_of under kinds joinable queue = record {
  room = under.room;
  config = under.config;
  mode = under.mode;
  kinds = kinds;
  joinable = joinable;
  places = places_of queue;
}

-- the same at a turn
abbrev pub site_in : Turn → List ℕ → List ℕ → Site
site_in turn joinable queue = site_of turn.ground turn.kinds.now joinable queue

-- what a sink's goals ask of the room and the marks. Joinable cells among themselves make no pair
pub record Grounds (S : Site) (blocked : List ℕ) (start : ℕ) : Type 0 where
  pub good : Good S.room
  pub config-good : GoodConfig S.room S.config
  pub kinds-long : length S.kinds ≡ volume S.room
  pub joinable-long : length S.joinable ≡ volume S.room
  pub joinable-marks : Marks S.joinable
  pub no_pair : NoPair S.room (is_marked S.joinable)
  pub blocked-long : length blocked ≡ volume S.room
  pub blocked-marks : Marks blocked
  pub start_in : start < volume S.room
  pub places-some : 0 < S.places

-- work memory of exactly V cells
pub record WorkMemory (R : Room) (known previous path : List ℕ) : Type 0 where
  pub known-long : length known ≡ volume R
  pub previous-long : length previous ≡ volume R
  pub path-long : length path ≡ volume R

-- what a goal's attempts ask: the class bytes say what is seen from the start to this goal. Between goals the start stands for the goal too
pub record Attemptable (S : Site) (blocked classes known previous path : List ℕ) (start goal : ℕ) : Type 0 where
  pub grounds : Grounds S blocked start
  pub memory : WorkMemory S.room known previous path
  pub goal_in : goal < volume S.room
  pub says : Says S.mode S.room S.kinds blocked start goal classes

-- "any other is blocked for this goal and the search repeats"
pub record Repeats (S : Site) (blocked : List ℕ) (start goal v : ℕ) : Type 0 where
  pub inside : v < volume S.room
  pub free : is_marked blocked v ≡ false
  pub is : (again : List ℕ → Trial) → attempt_then S blocked start goal again ≡ again (marked_by (eqb v) blocked)

abbrev pub AttemptComes : Site → List ℕ → ℕ → ℕ → List ℕ → Result (Option Found) Unended → Type 0
AttemptComes S blocked start goal cells (Ok r) = (again : List ℕ → Trial) → Tells (attempt_then S blocked start goal again) (Ok r) cells
AttemptComes S blocked start goal cells (Err (Full x)) = (again : List ℕ → Trial) → Tells (attempt_then S blocked start goal again) (Err x) cells
AttemptComes S blocked start goal cells (Err (Conflict v)) = Repeats S blocked start goal v

-- what an attempt comes to, whatever the attempts after it would
pub record Attempted (S : Site) (blocked : List ℕ) (start goal : ℕ) (cells : List ℕ) (r : Result (Option Found) Unended) : Type 0 where
  pub comes : AttemptComes S blocked start goal cells r

-- ---- the cheapest of all goals

-- of what is kept, with its path in `best`, and what a later goal came to, with its path in `path`, the cheaper one, with its path in `best`
pub record KeepsCheaper (kept tried : Option Found) (path best : List ℕ) (r : Option Found) (best' : List ℕ) : Type 0 where
  pub keeps : (earlier later : Trial) → Tells earlier (Ok kept) best → Tells later (Ok tried) path → Tells (cheaper_route earlier later) (Ok r) best'
