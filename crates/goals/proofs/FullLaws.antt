-- NO QUEUE IS FULL, where a flat step costs at least 10 and a stair at least 20 and there are 5 places for each cell but the start, or for each cell that
-- can be entered and two more: no goal of a sink comes to number 13.
use Rattle.std.specs.Prelude.{◌≡◌, ◌≢◌, Bool, true, false, ◌||◌, eqb, ltb, leb, length, Option, Some, None}
use Rattle.std.proofs.Math.Path.{refl}
use mathlib.Core.List.{List}
use Prim.Native.Nat.{ℕ, zero, suc, ◌+◌, ◌-◌, ◌*◌, ◌≤◌, ◌<◌}
use Rattle.std.proofs.Common.{arith, mul-le-mul_left, leb-true}
use Rattle.basics.specs.Tests.{ask, never, passed}
use Rattle.room.specs.Room.{Good, volume}
use Rattle.best_first.specs.Search.{Answer, route, no_route, limit-passed, queue-full}
use Rattle.best_first.specs.Statements.{count_below, OnlyInto}
use Rattle.best_first.proofs.Theorems as any-graph
use Rattle.room_search.specs.Routing.{Task, routeable, entering, graph_of, graph, searched}
use Rattle.room_search.specs.GraphLaws.{sound, consistent}
use Rattle.room_search.specs.Slackness.{slacks}
use Rattle.routing_resources.specs.Marks.{is_marked, marked_by}
use Rattle.geometry.specs.Geometry.{conflict_of}
use Rattle.blocked_world.specs.BlockedWorld.{Says}
use Rattle.goals.specs.NeverFull.{NeverFull, FivePlaces, enterable_count, never_full}
use Rattle.goals.specs.EnterLaws.{StillBlocked, still_marked, enters_for, enters-few, enters-only}
use Rattle.goals.specs.Goals.{Site, Trial, found, failed, full, trial_of, searched_for, at_conflict, after_search, attempts, cheaper_route, tried_goal, best_below, route_to_tree, site_task, ends_goal, max_attempts}
use Rattle.goals.specs.Trials.{Attemptable}

-- ---- one search

module _ (T : Task) (start_in : T.start < volume T.room) (goal_in : T.goal < volume T.room) where
  -- where no push finds the queue full, the search does not come to number 13
  not_pushed_full : ((x : ℕ) → searched T ≢ queue-full x) → (x : ℕ) → searched_for T ≢ full x
  unfolding searched_for
  not_pushed_full n x e =
      ask (routeable T T.start)
      (λ s. ask (routeable T T.goal) (λ g. go (searched T) refl (rw (s, g) at e)) (λ f. other (rw (s, f) at e)))
      (λ f. other (rw f at e))
    where
      other : failed ≡ full x → ⊥
      other q = never (cc)

      go : (a : Answer) → searched T ≡ a → trial_of a ≡ full x → ⊥
      go (route path cost y) w q = never (cc)
      go (no_route y) w q = never (cc)
      go (limit-passed y) w q = never (cc)
      go (queue-full y) w q = n y w

  pub search_not_full : FivePlaces T.config (volume T.room - 1) T.places → (x : ℕ) → searched_for T ≢ full x
  unfolding searched graph_of
  search_not_full F =
      not_pushed_full (any-graph.slacks-places
      (sound T.room T.config (entering T) T.start T.goal T.places start_in goal_in)
      (consistent T.room T.config (entering T) T.start T.goal T.places F.flat-least F.stair_least)
      (slacks T.room T.config (entering T) T.start T.goal T.places F.flat-least F.stair_least)
      T.config.limit.0
      F.wide)

  -- the same by the cells that can be entered
  pub entered_not_full : {test : ℕ → Bool} → OnlyInto (graph T) test → FivePlaces T.config (count_below (volume T.room) test) T.places → (x : ℕ) → searched_for T ≢ full x
  unfolding searched graph_of
  entered_not_full O F =
      not_pushed_full (any-graph.entered-places
      (sound T.room T.config (entering T) T.start T.goal T.places start_in goal_in)
      (consistent T.room T.config (entering T) T.start T.goal T.places F.flat-least F.stair_least)
      (slacks T.room T.config (entering T) T.start T.goal T.places F.flat-least F.stair_least)
      T.config.limit.0
      O
      F.wide)

-- ---- one goal

module _ (S : Site) (start : ℕ) (blocked : List ℕ)
    (fits : (blocked' : List ℕ) → StillBlocked blocked blocked' → (goal : ℕ) → goal < volume S.room → (x : ℕ) → searched_for (site_task S blocked' start goal) ≢ full x) where
  attempts_not_full : (goal : ℕ) → goal < volume S.room → (n : ℕ) (blocked' : List ℕ) → StillBlocked blocked blocked' → (x : ℕ) → attempts n S start goal blocked' ≢ full x
  unfolding attempts after_search at_conflict
  attempts_not_full goal h zero blocked' still x e = never (cc)
  attempts_not_full goal h (suc n) blocked' still x e = after (searched_for (site_task S blocked' start goal)) refl e (attempts_not_full goal h n)
    where
      at : (p : List ℕ) (c : ℕ) (place : Option ℕ) → at_conflict blocked' start goal (attempts n S start goal) (found p c) place ≡ full x
          → ((more : List ℕ) → StillBlocked blocked more → (y : ℕ) → attempts n S start goal more ≢ full y) → ⊥
      at p c None q later = never (cc)
      at p c (Some v) q later =
          ask (ends_goal blocked' start goal v)
          (λ t. never (cc (rw t at q)))
          (λ no. later (marked_by (eqb v) blocked') (λ u m. still_marked (eqb v) blocked' u (still u m)) x (rw no at q))

      after : (trial : Trial) → searched_for (site_task S blocked' start goal) ≡ trial → after_search S blocked' start goal (attempts n S start goal) trial ≡ full x
          → ((more : List ℕ) → StillBlocked blocked more → (y : ℕ) → attempts n S start goal more ≢ full y) → ⊥
      after (found p c) w q later = at p c (conflict_of S.room S.kinds S.joinable p) q later
      after failed w q later = never (cc)
      after (full y) w q later = fits blocked' still goal h y w

  searches_never : NeverFull S start blocked
  unfolding tried_goal
  searches_never = record {
    never = λ goal h x e.
        ask (is_marked S.joinable goal) (λ t. attempts_not_full goal h max_attempts blocked (λ v m. m) x (rw t at e)) (λ f. never (cc (rw f at e)));
  }

-- ---- all goals of a sink

module _ (S : Site) (start : ℕ) (blocked : List ℕ) (start_in : start < volume S.room) where
  -- by the number of cells
  pub cells-never : FivePlaces S.config (volume S.room - 1) S.places → NeverFull S start blocked
  cells-never F = searches_never S start blocked (λ blocked' still goal h. search_not_full (site_task S blocked' start goal) start_in h F)

  -- by the cells that can be entered at the turn, the goal and the cell above it
  pub enterable-never : Good S.room → {classes : List ℕ} → length S.kinds ≡ volume S.room → Says S.mode S.room S.kinds blocked start start classes
      → FivePlaces S.config (enterable_count (volume S.room) classes + 2) S.places → NeverFull S start blocked
  enterable-never good {classes} long says F = searches_never S start blocked (λ blocked' still goal h.
      entered_not_full (site_task S blocked' start goal) start_in h
      (enters-only S.mode S.room good S.config S.kinds blocked blocked' start goal S.places start_in h long says still)
      (record { flat-least = F.flat-least; stair_least = F.stair_least; wide = wide goal }))
    where
      wide : (goal : ℕ) → 5 * count_below (volume S.room) (enters_for S.room classes goal) ≤ S.places
      wide goal = omega (arith, F.wide, mul-le-mul_left 5 (enters-few S.room (volume S.room) classes goal))

-- the test is enough
pub tested-never : {S : Site} {blocked classes known previous path : List ℕ} {start : ℕ} → Attemptable S blocked classes known previous path start start
    → never_full S.config classes S.places ≡ true → NeverFull S start blocked
unfolding never_full
tested-never {S} {blocked} {classes} {start = start} A e =
    ask (leb (5 * length classes) (S.places + 5))
    (λ t. cells-never S start blocked A.grounds.start_in (record { flat-least = search passed; stair_least = search passed; wide = by-cells t }))
    (λ f. enterable-never S start blocked A.grounds.start_in A.grounds.good A.grounds.kinds-long A.says (record { flat-least = search passed; stair_least = search passed; wide = by-enterable f }))
  where
    by-cells : leb (5 * length classes) (S.places + 5) ≡ true → 5 * (volume S.room - 1) ≤ S.places
    by-cells t = omega (arith, leb-true (5 * length classes) (S.places + 5) t, A.says.long)

    by-enterable : leb (5 * length classes) (S.places + 5) ≡ false → 5 * (enterable_count (volume S.room) classes + 2) ≤ S.places
    by-enterable f =
        let wide : leb (5 * length classes) (S.places + 5) || leb (5 * (enterable_count (length classes) classes + 2)) S.places ≡ true = search passed in
        rw A.says.long at (leb-true (5 * (enterable_count (length classes) classes + 2)) S.places (rw f at wide))

neither-full : (a b : Trial) → ((x : ℕ) → a ≢ full x) → ((x : ℕ) → b ≢ full x) → (x : ℕ) → cheaper_route a b ≢ full x
unfolding cheaper_route
neither-full (full y) b na nb x e = na y refl
neither-full failed b na nb x e = nb x e
neither-full (found p c) (found q d) na nb x e = ask (ltb d c) (λ t. never (cc (rw t at e))) (λ f. never (cc (rw f at e)))
neither-full (found p c) failed na nb x e = never (cc)
neither-full (found p c) (full y) na nb x e = nb y refl

module _ (S : Site) (start : ℕ) (blocked : List ℕ) (F : NeverFull S start blocked) where
  pub best_not_full : (n : ℕ) → n ≤ volume S.room → (x : ℕ) → best_below n S start blocked ≢ full x
  unfolding best_below
  best_not_full zero h x e = never (cc)
  best_not_full (suc n) h x e =
      neither-full (best_below n S start blocked) (tried_goal S start blocked n) (best_not_full n (omega arith)) (F.never n (omega arith)) x e

  pub route_not_full : (x : ℕ) → route_to_tree S start blocked ≢ full x
  unfolding route_to_tree
  route_not_full x e = best_not_full (volume S.room) (omega arith) x e
