-- Number 14 where a node limit is never passed: every joinable cell has its reason, however few places the queue has, as a queue that is full is number 13.
use Rattle.std.specs.Prelude.{◌≡◌, eqb, Option, Some, None}
use Rattle.std.proofs.Math.Path.{refl, sym}
use Rattle.std.proofs.Common.{◌∙◌, arith}
use Rattle.std.proofs.Math.Bool.{true, false}
use mathlib.Core.List.{List}
use Prim.Native.Nat.{ℕ, zero, suc, ◌+◌, ◌-◌, ◌*◌, ◌≤◌, ◌<◌}
use Rattle.basics.specs.Tests.{ask, never}
use Rattle.room.specs.Room.{Good, volume}
use Rattle.best_first.specs.Search.{Answer, route, no_route, limit-passed, queue-full}
use Rattle.room_search.specs.Routing.{Task, routeable, searched}
use Rattle.routing_resources.specs.Marks.{is_marked, marked_by}
use Rattle.geometry.specs.Geometry.{conflict_of}
use Rattle.goals.specs.Goals.{Site, Trial, found, failed, full, trial_of, searched_for, at_conflict, after_search, max_attempts, attempts, tried_goal, route_to_tree, site_task, ends_goal}
use Rattle.goals.specs.Routes.{as_blocked, one_more}
use Rattle.goals.proofs.RouteLaws.{below-failed}
use Rattle.demands.specs.Statements.{Priced, NoLawfulWay}
use Rattle.demands.specs.Theorems.{no_route_true, never-passed}
use Rattle.demands.specs.QueueLaws.{posed}
use Rattle.demands.specs.TreeStatements.{GoalEnds, no_way, conflict_stays, attempts-over}

-- ---- one search

module _ (T : Task) (G : Good T.room) (start_in : T.start < volume T.room) (goal_in : T.goal < volume T.room) (D : Priced T.config)
    (limit : 5 * (volume T.room - 1) + 1 ≤ T.config.limit.0) where
  -- one that fails has no lawful way: neither of its ends stands in a block, its limit is not passed, and its queue is not full
  pub failed-so : searched_for T ≡ failed → NoLawfulWay T
  unfolding searched_for
  failed-so e =
      ask (routeable T T.start)
      (λ s. ask (routeable T T.goal)
      (λ g. go s g (searched T) refl (rw (s, g) at e))
      (λ f after w. let z : false ≡ true = sym f ∙ w.goal-free in never (cc)))
      (λ f after w. let z : false ≡ true = sym f ∙ w.start-free in never (cc))
    where
      go : routeable T T.start ≡ true → routeable T T.goal ≡ true → (a : Answer) → searched T ≡ a → trial_of a ≡ failed → NoLawfulWay T
      go s g (route path cost x) w q = never (cc)
      go s g (no_route x) w q = no_route_true (posed T G start_in goal_in s g) w
      go s g (limit-passed x) w q = absurd (never-passed (posed T G start_in goal_in s g) D limit x w)
      go s g (queue-full x) w q = never (cc)

-- ---- a goal's attempts

module _ (S : Site) (G : Good S.room) (start : ℕ) (start_in : start < volume S.room) (D : Priced S.config)
    (limit : 5 * (volume S.room - 1) + 1 ≤ S.config.limit.0) where
  prepend : {goal n : ℕ} {blocked path : List ℕ} {cost v : ℕ} → searched_for (site_task S blocked start goal) ≡ found path cost
      → conflict_of S.room S.kinds S.joinable path ≡ Some v → ends_goal blocked start goal v ≡ false
      → GoalEnds S start goal n (marked_by (eqb v) blocked) → GoalEnds S start goal (suc n) blocked
  prepend {n = n} w f g (no_way m later few r q) = no_way {attempts = suc n} (suc m) later (omega arith) (one_more w f g r) q
  prepend {n = n} w f g (conflict_stays m later path cost v few r s c e) = conflict_stays {attempts = suc n} (suc m) later path cost v (omega arith) (one_more w f g r) s c e
  prepend w f g (attempts-over later r) = attempts-over later (one_more w f g r)

  goal-ends : (goal : ℕ) → goal < volume S.room → (n : ℕ) (blocked : List ℕ) → attempts n S start goal blocked ≡ failed → GoalEnds S start goal n blocked
  unfolding attempts after_search at_conflict
  goal-ends goal h zero blocked e = attempts-over blocked as_blocked
  goal-ends goal h (suc n) blocked e = after (searched_for (site_task S blocked start goal)) refl e (goal-ends goal h n)
    where
      at : (p : List ℕ) (c : ℕ) → searched_for (site_task S blocked start goal) ≡ found p c
          → (place : Option ℕ) → conflict_of S.room S.kinds S.joinable p ≡ place
          → at_conflict blocked start goal (attempts n S start goal) (found p c) place ≡ failed
          → ((blocked' : List ℕ) → attempts n S start goal blocked' ≡ failed → GoalEnds S start goal n blocked')
          → GoalEnds S start goal (suc n) blocked
      at p c w None f q later = never (cc)
      at p c w (Some v) f q later =
          ask (ends_goal blocked start goal v)
          (λ t. conflict_stays {attempts = suc n} 0 blocked p c v (omega arith) as_blocked w f t)
          (λ g. prepend w f g (later (marked_by (eqb v) blocked) (rw g at q)))

      after : (trial : Trial) → searched_for (site_task S blocked start goal) ≡ trial
          → after_search S blocked start goal (attempts n S start goal) trial ≡ failed
          → ((blocked' : List ℕ) → attempts n S start goal blocked' ≡ failed → GoalEnds S start goal n blocked')
          → GoalEnds S start goal (suc n) blocked
      after (found p c) w q later = at p c w (conflict_of S.room S.kinds S.joinable p) refl q later
      after failed w q later =
          no_way {attempts = suc n} 0 blocked (omega arith) as_blocked (failed-so (site_task S blocked start goal) G start_in h D limit w)
      after (full x) w q later = never (cc)

  -- what `no_goal_means` says, of any queue
  pub each-goal-ends : (blocked : List ℕ) → route_to_tree S start blocked ≡ failed → (goal : ℕ) → goal < volume S.room → is_marked S.joinable goal ≡ true
      → GoalEnds S start goal max_attempts blocked
  unfolding route_to_tree tried_goal
  each-goal-ends blocked e goal h j = goal-ends goal h max_attempts blocked (rw j at (below-failed S start blocked (volume S.room) e goal h))
