-- The parts of the public search put together.
use Rattle.std.specs.Prelude.{◌≡◌, refl, ℕ, ◌-◌, ◌≤◌, pred, get_or, take, Ok}
use Rattle.std.proofs.Common.{sym, ◌∙◌, arith, take_at, length-take-le}
use Rattle.std.proofs.Math.Path.{ap}
use mathlib.Core.List.{List, [], ◌++◌}
use Rattle.std.proofs.Math.Nat.{sub-zero}
use Rattle.std.proofs.Math.ListN.{length, drop, replicate}
use Rattle.std.proofs.Math.Seq.{length_front}
use Rattle.basics.specs.Zeros.{drop_zeros, cleared-to}
use Rattle.lent.specs.Lent.{Cleared, filled}
use Rattle.room.specs.declared.Room.{Room}
use Rattle.room.specs.declared.RouterConfig.{RouterConfig}
use Rattle.room.specs.Room.{volume}
use Rattle.best_first.specs.Search.{Answer, route}
use Rattle.trace.specs.Traces.{PreviousInside}
use Rattle.trace.specs.TraceLaws.{trace-short, trace-cells}
use Rattle.room.specs.declared.Nodes.{Nodes}
use Rattle.routing.specs.declared.Route.{Route}
use Rattle.room_search.specs.declared.Outcome.{Outcome}
use Rattle.room_search.specs.declared.Outcome.TheVariants.{Arrived}
use Rattle.room_search.specs.Routing.{Task, graph_of, searched}
use Rattle.room_search.specs.Classes.{Plain, with_end}
use Rattle.room_search.specs.SameGraphLaws.{ends_length, ends-graph}
use Rattle.room_search.specs.TriedMoves.{places_of}
use Rattle.room_search.specs.Takings.{SearchRan, spot_of, Searchable}
use Rattle.routing.specs.TotalLaws.{Countable}
use Rattle.routing.specs.Entry.{SearchFound, Shown, RouteWritten, traced, Admitted, RoomSearchable}
use Rattle.routing.specs.Answers.{task_in, lengths_of, answered, cells_of}

-- with the classes filled in, the search can run; what it comes to is what the definition says
module _ {R : Room} {C : RouterConfig} {kinds : List ℕ} {start goal : ℕ} {known previous classes₀ queue : List ℕ}
    (S : RoomSearchable R C kinds start goal known previous classes₀ queue) {classes : List ℕ} (P : Plain R kinds classes) where
  abbrev T : Task
  T = task_in R C kinds start goal (places_of queue)

  pub classed-searchable : Searchable R C (with_end R kinds goal (with_end R kinds start classes)) known previous queue start goal
  classed-searchable = record {
    good = S.memory.good;
    config-good = S.memory.config-good;
    classes-long = ends_length T classes P S.memory.start_in S.memory.goal_in;
    known-long = S.memory.known-long;
    previous-long = S.memory.previous-long;
    start_in = S.memory.start_in;
    goal_in = S.memory.goal_in;
    places-some = S.memory.places-some;
  }

  pub classed-found : {o : Outcome} {known' previous' : List ℕ} → SearchRan R C (with_end R kinds goal (with_end R kinds start classes)) queue (spot_of R start) (spot_of R goal) o known' previous'
      → SearchFound T o known' previous'
  unfolding searched
  classed-found r = record { told = rw (ends-graph T classes P S.memory.start_in S.memory.goal_in) at r.told }

-- ---- the answer

module _ {R : Room} {C : RouterConfig} {kinds : List ℕ} {goal : ℕ} {known previous path : List ℕ} (S : Shown R C kinds goal known previous path) where
  -- the cells of the path can be counted
  pub traced_countable : PreviousInside previous → Countable R C kinds (traced previous goal)
  traced_countable inside =
      let long = S.previous-long in
      record {
        good = S.good;
        config-good = S.config-good;
        kinds-long = S.kinds-long;
        path-short = omega (arith, trace-short (length previous) previous goal [], long);
        cells = λ i k. rw (← long) (trace-cells (length previous) previous inside goal [] (rw long S.goal_in) (λ j q. absurd (omega arith)) i k);
      }

  module _ (start places : ℕ) where
    abbrev shown : Task
    shown = task_in R C kinds start goal places

    pub shown-route : {x : Nodes} {r : Route} {path' : List ℕ} → path ≡ replicate (length path) 0 → SearchFound shown (Arrived x) known previous
        → RouteWritten R C kinds goal known previous path x r path'
        → (Ok r ≡ answered shown (searched shown)) × (path' ≡ filled (cells_of (searched shown)) path)
    unfolding graph_of
    shown-route {x} {r} {path'} z F W =
        let cells = traced previous goal in
        let e : searched shown ≡ route cells (pred (get_or known goal 0)) x.0 = rw S.previous-long F.told.is in
        let d : drop (length cells) path ≡ replicate (length path - length cells) 0 = ap (drop (length cells)) z ∙ drop_zeros (length cells) (length path) in
        let s : Ok r ≡ answered shown (route cells (pred (get_or known goal 0)) x.0) = ap Ok W.route-is in
        (rw e s, rw e (W.path-is ∙ ap (λ (l : List ℕ). cells ++ l) d))

-- an answer that shows no cells: the buffer stays cleared
pub shown-bare : (T : Task) {path : List ℕ} {a : Answer} → path ≡ replicate (length path) 0 → searched T ≡ a → cells_of a ≡ []
    → (answered T a ≡ answered T (searched T)) × (path ≡ filled (cells_of (searched T)) path)
shown-bare T z e none = rw (e, none) (refl, rw sub-zero z)

-- ---- work memory of which the first V numbers are lent on

module _ (front whole : List ℕ) (v : ℕ) (kept : length front ≡ length (take v whole)) where
  -- as much is lent again as before
  pub again : v ≤ length whole → take v (front ++ drop v whole) ≡ front
  again h = take_at front (drop v whole) v (kept ∙ length-take-le v whole h)

  pub again_length : v ≤ length whole → v ≡ length (take v (front ++ drop v whole))
  again_length h = sym (ap length (again h) ∙ kept ∙ length-take-le v whole h)

  pub cleared-whole : (after : List ℕ) → after ≡ replicate (length (front ++ drop v whole)) 0 → Cleared whole after
  cleared-whole after e = cleared-to (length_front whole front v kept) e

pub room-searchable : {R : Room} {C : RouterConfig} {kinds : List ℕ} {start goal : ℕ} (path known previous classes queue : List ℕ) {v : ℕ}
    → Admitted R C kinds start goal (lengths_of path known previous classes queue) → v ≡ volume R
    → RoomSearchable R C kinds start goal (take v known) (take v previous) (take v classes) queue
room-searchable {R} {C} {kinds} {start} {goal} path known previous classes queue {v} P e = record {
  kinds-long = P.kinds-long;
  memory = record {
    good = P.good;
    config-good = P.config-good;
    classes-long = rw e (length-take-le (volume R) classes P.classes-enough);
    known-long = rw e (length-take-le (volume R) known P.known-enough);
    previous-long = rw e (length-take-le (volume R) previous P.previous-enough);
    start_in = P.start_in;
    goal_in = P.goal_in;
    places-some = P.places-some;
  };
}
