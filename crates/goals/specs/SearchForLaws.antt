-- Laws of one search: over class bytes that say what is seen, its answer is the defined one.
use Rattle.std.specs.Prelude.{◌≡◌, Bool, ◌&&◌, List, [], ◌++◌, ℕ, ◌+◌, ◌≤◌, ◌<◌, pred, length, get_or, drop, Some, None, Ok, Err}
use Rattle.std.proofs.Math.Path.{refl}
use Rattle.std.proofs.Common.{sym, arith, length-append, take_at}
use Rattle.std.proofs.Math.Bool.{true, false}
use Rattle.basics.specs.Tests.{either, never, and_left, and_right}
use Rattle.room.specs.declared.Room.{Room}
use Rattle.room.specs.declared.RouterConfig.{RouterConfig}
use Rattle.room.specs.Room.{volume}
use Rattle.room.specs.Units.{air}
use Rattle.best_first.specs.Search.{trace}
use Rattle.room_search.specs.declared.Outcome.{Outcome}
use Rattle.room_search.specs.declared.Outcome.TheVariants.{Arrived, NoRoute, LimitPassed, QueueFull}
use Rattle.room_search.specs.Routing.{Task, routeable_kind, routeable, graph_of, searched, an_end}
use Rattle.room_search.specs.SearchEndLaws.{start-is-end, goal-is-end}
use Rattle.room_search.specs.TriedMoves.{places_of}
use Rattle.room_search.specs.Takings.{SearchRan, graph_in, spot_of}
use Rattle.ground.specs.declared.Mode.{Mode}
use Rattle.blocked_world.specs.BlockedWorld.{seen_task}
use Rattle.blocked_world.specs.SeenLaws.{end_open, seen_open, says-graph}
use Rattle.goals.specs.declared.Found.{Found}
use Rattle.goals.specs.declared.QueueFull as full-queue
use Rattle.goals.specs.Goals.{found, failed, trial_of, searched_for}
use Rattle.goals.specs.Trials.{Tried, Tells, both_routeable, TriedOf, SearchTold}

-- ---- the answer

pub tells-failed : (cells : List ℕ) → Tells failed (Ok None) cells
tells-failed cells = record { is = refl; fits = omega arith }

-- a route of which so many cells are written to the front
pub tells-route : (cells : List ℕ) (f : Found) (path : List ℕ) (price : ℕ) (path' : List ℕ) → f.length ≡ length cells → f.length ≤ length path → f.cost.0 ≡ price
    → path' ≡ cells ++ drop f.length path → Tells (found cells price) (Ok (Some f)) path'
tells-route cells f path price path' e h p w = record {
  is = rw (w, p, take_at cells (drop f.length path) f.length (sym e));
  fits = let l : length (cells ++ drop f.length path) ≡ length cells + length (drop f.length path) = length-append cells (drop f.length path) in rw w (omega arith);
}

-- by cases of the outcome
module _ {goal : ℕ} {known previous : List ℕ} where
  pub outcome-route : (x : _) {r : Tried} {cells : List ℕ} → Tells (found (trace (length previous) previous goal []) (pred (get_or known goal 0))) r cells
      → TriedOf (Arrived x) goal known previous r cells
  outcome-route x t = record { shows = λ G answer s g A. rw (A.is, s, g) t }

  module _ (cells : List ℕ) where
    pub outcome-none : (x : _) → TriedOf (NoRoute x) goal known previous (Ok None) cells
    outcome-none x = record { shows = λ G answer s g e. rw e (tells-failed cells) }

    pub outcome-limit : (x : _) → TriedOf (LimitPassed x) goal known previous (Ok None) cells
    outcome-limit x = record { shows = λ G answer s g e. rw e (tells-failed cells) }

    pub outcome-full : (x : full-queue.QueueFull) → TriedOf (QueueFull x.0) goal known previous (Err x) cells
    outcome-full x = record { shows = λ G answer s g e. rw e (record { is = refl; fits = omega arith }) }

-- ---- the ends

module _ (mode : Mode) (R : Room) (C : RouterConfig) (kinds blocked : List ℕ) (start goal places : ℕ) (long : length kinds ≡ volume R) where
  abbrev T : Task
  T = seen_task mode R C kinds blocked start goal places

  -- an end is seen as what it is
  end-free : (v : ℕ) → v < volume R → an_end start goal v ≡ true → routeable T v ≡ routeable_kind true (get_or kinds v air)
  unfolding routeable
  end-free v h e = rw (e, seen_open kinds blocked start goal v mode (rw long h) (end_open kinds blocked start goal v e))

  module _ (start_in : start < volume R) (goal_in : goal < volume R) where
    start-free : routeable T start ≡ routeable_kind true (get_or kinds start air)
    start-free = end-free start start_in (start-is-end start goal)

    goal-free : routeable T goal ≡ routeable_kind true (get_or kinds goal air)
    goal-free = end-free goal goal_in (goal-is-end start goal)

    not_routeable : both_routeable kinds start goal ≡ false → searched_for T ≡ failed
    unfolding searched_for
    not_routeable e = rw (start-free, goal-free) (go (routeable_kind true (get_or kinds start air)) (routeable_kind true (get_or kinds goal air)) e)
      where
        go : (a b : Bool) → a && b ≡ false → either a (either b (trial_of (searched T)) failed) failed ≡ failed
        go true true q = never (cc)
        go true false q = refl
        go false b q = refl

    ends-routeable : both_routeable kinds start goal ≡ true → searched_for T ≡ trial_of (searched T)
    unfolding searched_for
    ends-routeable e =
        rw (start-free, goal-free, and_left (routeable_kind true (get_or kinds start air)) (routeable_kind true (get_or kinds goal air)) e, and_right (routeable_kind true (get_or kinds start air)) (routeable_kind true (get_or kinds goal air)) e)

-- ---- the search over the class bytes

module _ {R : Room} {C : RouterConfig} {classes queue : List ℕ} {start goal : ℕ} where
  module _ (kinds : List ℕ) (long : length kinds ≡ volume R) (start_in : start < volume R) (goal_in : goal < volume R) where
    pub told-failed : both_routeable kinds start goal ≡ false → (cells : List ℕ) → SearchTold R C kinds classes queue start goal (Ok None) cells
    told-failed e cells = record {
      tells = λ mode blocked says. rw (not_routeable mode R C kinds blocked start goal (places_of queue) long start_in goal_in e) (tells-failed cells);
    }

    pub told-searched : both_routeable kinds start goal ≡ true → {o : Outcome} {known previous : List ℕ} → SearchRan R C classes queue (spot_of R start) (spot_of R goal) o known previous
        → length previous ≡ volume R → {r : Tried} {cells : List ℕ} → TriedOf o goal known previous r cells → SearchTold R C kinds classes queue start goal r cells
    unfolding searched graph_of
    told-searched e ran n shown = record {
      tells = λ mode blocked says.
          rw (ends-routeable mode R C kinds blocked start goal (places_of queue) long start_in goal_in e, ← says-graph mode R kinds blocked start goal says C (places_of queue))
          (shown.shows (graph_in R C classes start goal queue) _ (sym n) refl ran.told);
    }
