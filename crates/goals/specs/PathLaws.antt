-- What is known of a path that a search finds, and of its conflict with the joinable cells: they are cells of the room.
use Rattle.std.specs.Prelude.{◌≡◌, Bool, true, false, eqb, length, get_or, Option, Some, None}
use Rattle.std.proofs.Math.Path.{refl}
use Rattle.std.proofs.Common.{ap, subst, ◌∙◌, arith}
use mathlib.Core.List.{List, [], ◌∷◌}
use Prim.Native.Nat.{ℕ, zero, suc, ◌≤◌, ◌<◌}
use Rattle.basics.specs.Tests.{either, ask, never}
use Rattle.room.specs.declared.Room.{Room}
use Rattle.room.specs.Room.{Good, volume, or_else, above}
use Rattle.room.specs.RoomLaws.{above_in, same-cell, inside-passed}
use Rattle.room.specs.Units.{air}
use Rattle.best_first.specs.Search.{Graph, Answer, route, no_route, limit-passed, queue-full}
use Rattle.best_first.specs.Ways.{GraphStep, Way, Sound}
use Rattle.best_first.specs.Statements.{Lawful}
use Rattle.best_first.proofs.Reached.{Ending, empty, arrives, passes, fills, ending}
use Rattle.best_first.proofs.Theorems.{honest}
use Rattle.room_search.specs.Routing.{Task, routeable, entering, graph_of, graph, searched}
use Rattle.room_search.specs.GraphLaws.{sound}
use Rattle.trace.specs.TraceLaws.{trace-short}
use Rattle.routing_resources.specs.Resources.{clearance_of}
use Rattle.routing_resources.specs.ResourceLaws.{clearance_in}
use Rattle.geometry.specs.Geometry.{first_pair, if_passed, at_clearance, stair_conflict, conflict_among, conflict_of, upper_of_pair, conductor}
use Rattle.goals.specs.Goals.{found, failed, trial_of, searched_for}
use Rattle.room.specs.PlaceLaws.{first-passed}
use Rattle.routing_resources.specs.Marks.{AllCells}

-- ---- a path found

-- both ends are routeable, and the search answers that route
pub record FoundBy (T : Task) (path : List ℕ) (cost : ℕ) : Type 0 where
  pub start-free : routeable T T.start ≡ true
  pub goal-free : routeable T T.goal ≡ true
  pub expanded : ℕ
  pub is : searched T ≡ route path cost expanded

pub found-by : (T : Task) (path : List ℕ) (cost : ℕ) → searched_for T ≡ found path cost → FoundBy T path cost
unfolding searched_for
found-by T path cost e = go (routeable T T.start) refl (routeable T T.goal) refl (searched T) refl e
  where
    go : (a : Bool) → routeable T T.start ≡ a → (b : Bool) → routeable T T.goal ≡ b → (answer : Answer) → searched T ≡ answer
        → either a (either b (trial_of answer) failed) failed ≡ found path cost → FoundBy T path cost
    go true s true g (route p c x) w q =
        let same : p ≡ path = cc in
        let price : c ≡ cost = cc in
        record { start-free = s; goal-free = g; expanded = x; is = rw (← same, ← price) w }
    go true s true g (no_route x) w q = never (cc)
    go true s true g (limit-passed x) w q = never (cc)
    go true s true g (queue-full x) w q = never (cc)
    go true s false g answer w q = never (cc)
    go false s b g answer w q = never (cc)

module _ (G : Graph) {degree dearest : ℕ} (S : Sound G degree dearest) where
  way-cells : (l : List ℕ) (u t d : ℕ) → u < G.size → Way G u l t d → (i : ℕ) → i < length (u ∷ l) → get_or (u ∷ l) i 0 < G.size
  unfolding GraphStep
  way-cells [] u t d h w zero k = h
  way-cells [] u t d h w (suc i) k = absurd (omega arith)
  way-cells (v ∷ l) u t d h w zero k = h
  way-cells (v ∷ l) u t d h w (suc i) k =
      let step = w.2 in
      way-cells l v t w.1 (rw step.2 at (S.inside u step.0 step.1)) w.3 i (omega arith)

module _ {T : Task} {path : List ℕ} {cost : ℕ} (start_in : T.start < volume T.room) (goal_in : T.goal < volume T.room) where
  -- the path is the start and a way to the goal, whose steps add up to the cost
  pub found-lawful : FoundBy T path cost → Lawful (graph T) path cost
  unfolding searched
  found-lawful F = rw F.is at (honest (sound T.room T.config (entering T) T.start T.goal T.places start_in goal_in) T.config.limit.0)

  pub found-cells : FoundBy T path cost → AllCells T.room path
  unfolding graph_of
  found-cells F =
      let way = found-lawful F in
      record {
        below = rw way.begins
            (way-cells (graph T) (sound T.room T.config (entering T) T.start T.goal T.places start_in goal_in) way.rest T.start T.goal cost start_in way.way);
      }

-- it has at most V cells
pub found-short : {T : Task} {path : List ℕ} {cost : ℕ} → FoundBy T path cost → length path ≤ volume T.room
unfolding searched graph_of
found-short {T} F = subst AtMost F.is (short (ending (graph T) T.config.limit.0))
  where
    AtMost : Answer → Type 0
    AtMost (route p c x) = length p ≤ volume T.room
    AtMost (no_route x) = Unit {0}
    AtMost (limit-passed x) = Unit {0}
    AtMost (queue-full x) = Unit {0}

    short : {a : Answer} {l : List ℕ} → Ending (graph T) T.config.limit.0 a l → AtMost a
    short (empty r w) = tt
    short (arrives {s = s} t r k e) = omega (arith, trace-short (volume T.room) s.previous T.goal [])
    short (passes t r k e w) = tt
    short (fills t r k e w) = tt

-- ---- its conflict

module _ (R : Room) (G : Good R) (kinds : List ℕ) (conducts : ℕ → Bool) where
  passed_in : (place : Option ℕ) (u v : ℕ) → u < volume R → above R u ≡ place → if_passed conducts place ≡ Some v → v < volume R
  passed_in (Some w) u v h e q = above_in R G u v h (e ∙ ap Some (inside-passed (conducts w) w v q).0)
  passed_in None u v h e q = never (cc)

  clearance_conflict : (a b v : ℕ) → a < volume R → b < volume R → at_clearance R kinds conducts b (clearance_of R a b) ≡ Some v → v < volume R
  unfolding at_clearance
  clearance_conflict a b v a_in b-in e = go (clearance_of R a b) refl e
    where
      go : (place : Option ℕ) → clearance_of R a b ≡ place → at_clearance R kinds conducts b place ≡ Some v → v < volume R
      go None w q = never (cc)
      go (Some u) w q =
          let u-in = clearance_in R G a b a_in b-in u w in
          ask (eqb (get_or kinds u air) air)
          (λ t. passed_in (above R u) u v u-in refl (rw t at q))
          (λ f. rw (same-cell b v (rw f at q)) at b-in)

  stairs_in : (path : List ℕ) → ((i : ℕ) → i < length path → get_or path i 0 < volume R) → (v : ℕ) → stair_conflict R kinds conducts path ≡ Some v → v < volume R
  unfolding stair_conflict
  stairs_in [] all v e = never (cc)
  stairs_in (a ∷ []) all v e = never (cc)
  stairs_in (a ∷ (b ∷ rest)) all v e = go (at_clearance R kinds conducts b (clearance_of R a b)) refl e (stairs_in (b ∷ rest) (λ i h. all (suc i) (omega arith)) v)
    where
      go : (place : Option ℕ) → at_clearance R kinds conducts b (clearance_of R a b) ≡ place
          → or_else place (stair_conflict R kinds conducts (b ∷ rest)) ≡ Some v
          → (stair_conflict R kinds conducts (b ∷ rest) ≡ Some v → v < volume R) → v < volume R
      go (Some u) w q later = clearance_conflict a b v (all 0 (omega arith)) (all 1 (omega arith)) (w ∙ q)
      go None w q later = later q

pub conflict_in : (R : Room) → Good R → (kinds joinable path : List ℕ) → AllCells R path → (v : ℕ) → conflict_of R kinds joinable path ≡ Some v → v < volume R
unfolding conflict_among first_pair
conflict_in R G kinds joinable path cells v e = go (conductor joinable path) (first_pair R (conductor joinable path)) refl e
  where
    go : (conducts : ℕ → Bool) (place : Option ℕ) → first_pair R conducts ≡ place → or_else place (stair_conflict R kinds conducts path) ≡ Some v → v < volume R
    go conducts (Some u) w q = (first-passed (upper_of_pair R conducts) (volume R) v (w ∙ q)).0
    go conducts None w q = stairs_in R G kinds conducts path cells.below v q
