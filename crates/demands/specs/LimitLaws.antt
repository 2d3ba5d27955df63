-- A QUEUE OF 11 PLACES FOR EACH NODE OF THE LIMIT, AND ONE MORE, IS NEVER FULL, at any costs: a cell that is expanded leaves its place and enters at most
-- twelve others.
use Rattle.std.specs.Prelude.{◌≡◌, ◌≢◌, eqb, length, Option, Some, None}
use Rattle.std.proofs.Math.Path.{refl}
use Rattle.std.proofs.Common.{sym, ◌∙◌, arith, mul-le-mul_left}
use mathlib.Core.List.{List, []}
use Prim.Native.Nat.{ℕ, zero, suc, ◌+◌, ◌*◌, ◌≤◌, ◌<◌}
use Rattle.basics.specs.Tests.{ask, never}
use Rattle.room.specs.Room.{volume}
use Rattle.best_first.specs.Search.{Graph, State, Taken, Pushed, full, on, push, Answer, route, no_route, limit-passed, queue-full, take_all, first_state, best_first}
use Rattle.best_first.specs.Ways.{Sound}
use Rattle.best_first.specs.Statements.{Taking, cost_of, outcome, Reached, at_first, then}
use Rattle.best_first.proofs.Equations.{TakeCases, none-waits, goal-taken, goes_on, take_cases, take_all_ends, take_all_limit, take_all_full, take_all_on}
use Rattle.best_first.proofs.Reached.{through, expanded-stays}
use Rattle.best_first.proofs.Bounds.{Still, skip_still, push-still, take_still, sane}
use Rattle.room_search.specs.Routing.{Task, routeable, entering, graph_of, graph, searched}
use Rattle.room_search.specs.GraphLaws.{sound}
use Rattle.routing_resources.specs.Marks.{is_marked, marked_by}
use Rattle.geometry.specs.Geometry.{conflict_of}
use Rattle.goals.specs.Goals as goals
use Rattle.goals.specs.Goals.{Site, Trial, found, failed, trial_of, searched_for, at_conflict, after_search, attempts, tried_goal, site_task, ends_goal, max_attempts}
use Rattle.goals.specs.NeverFull.{NeverFull}

-- ---- any graph

module _ {G : Graph} {degree priciest : ℕ} (S : Sound G degree priciest) where
  -- where a push finds the queue full, at most `degree` entries for each cell expanded were pushed, and one for each was taken out
  full_by : {l : List ℕ} {s : State} {t : Taken} → Reached G l s → Taking s.waiting t → outcome G s t.next t.left ≡ full
      → G.places + suc s.expanded ≤ degree * suc s.expanded
  unfolding push
  full_by {s = s} {t} R k e =
      rw e at (through G t.next.cell (cost_of s t.next.cell)
      (λ ms l r. Still G degree priciest t.next.cell (cost_of s t.next.cell) ms r × (r.expanded ≡ suc s.expanded))
      (λ l. G.places + suc s.expanded ≤ degree * suc s.expanded)
      (λ m ms l r A f. (skip_still S A.0, A.1))
      (λ m ms l r A f p. (push-still S A.0 f, A.1))
      (λ m ms l r A f p. let few : r.serial + suc (length ms) ≤ degree * suc s.expanded = rw A.1 at A.0.sane.serial in omega (arith, few, A.0.sane.balance, A.1, p))
      (G.moves t.next.cell) [] _ (take_still S (sane S R) k, refl))

  full-so : (b : ℕ) (l : List ℕ) (s : State) → Reached G l s → (x : ℕ) → take_all G b s ≡ queue-full x → (x ≤ s.expanded + b) × (G.places + x ≤ degree * x)
  full-so zero l s R x e = go (take_cases G s)
    where
      go : TakeCases G s → (x ≤ s.expanded + zero) × (G.places + x ≤ degree * x)
      go (none-waits q t) = let z = sym (take_all_ends G s zero _ t) ∙ e in never (cc)
      go (goal-taken k T q t) = let z = sym (take_all_ends G s zero _ t) ∙ e in never (cc)
      go (goes_on k T q t) = let z = sym (take_all_limit G s _ _ t) ∙ e in never (cc)
  full-so (suc b) l s R x e = go (take_cases G s) (full-so b)
    where
      go : TakeCases G s → ((l' : List ℕ) (s' : State) → Reached G l' s' → (y : ℕ) → take_all G b s' ≡ queue-full y → (y ≤ s'.expanded + b) × (G.places + y ≤ degree * y))
          → (x ≤ s.expanded + suc b) × (G.places + x ≤ degree * x)
      go (none-waits q t) ih = let z = sym (take_all_ends G s (suc b) _ t) ∙ e in never (cc)
      go (goal-taken k T q t) ih = let z = sym (take_all_ends G s (suc b) _ t) ∙ e in never (cc)
      go (goes_on k T q t) ih = out _ refl
        where
          out : (p : Pushed) → outcome G s k.next k.left ≡ p → (x ≤ s.expanded + suc b) × (G.places + x ≤ degree * x)
          out full f =
              let z : queue-full (suc s.expanded) ≡ queue-full x = sym (take_all_full G s _ _ t b f) ∙ e in
              let n : x ≡ suc s.expanded = cc in
              (omega arith, rw n (full_by R T f))
          out (on r) f =
              let later = ih _ r (then k R T q f) x (sym (take_all_on G s _ _ t b r f) ∙ e) in
              (omega (arith, later.0, expanded-stays G _ _ _ _ r f), later.1)

-- one less than the degree for each node of the limit, and one more
pub limit-places : {G : Graph} {k priciest : ℕ} → Sound G (suc k) priciest → (limit : ℕ) → k * limit < G.places → (x : ℕ) → best_first G limit ≢ queue-full x
unfolding best_first first_state
limit-places {G} {k} S limit wide x e =
    let f = full-so S limit [] (first_state G) at_first x e in
    let h : x ≤ limit = omega (arith, f.0) in
    omega (arith, wide, f.1, mul-le-mul_left k h)

-- ---- one search over a room

module _ (T : Task) (start_in : T.start < volume T.room) (goal_in : T.goal < volume T.room) (wide : 11 * T.config.limit.0 < T.places) where
  pub limit-never-full : (x : ℕ) → searched T ≢ queue-full x
  unfolding searched graph_of
  limit-never-full = limit-places {k = 11} (sound T.room T.config (entering T) T.start T.goal T.places start_in goal_in) T.config.limit.0 wide

  limit_search : (x : ℕ) → searched_for T ≢ goals.full x
  unfolding searched_for
  limit_search x e =
      ask (routeable T T.start)
      (λ s. ask (routeable T T.goal) (λ g. go (searched T) refl (rw (s, g) at e)) (λ f. never (cc (rw (s, f) at e))))
      (λ f. never (cc (rw f at e)))
    where
      go : (a : Answer) → searched T ≡ a → trial_of a ≡ goals.full x → ⊥
      go (route path cost y) w q = never (cc)
      go (no_route y) w q = never (cc)
      go (limit-passed y) w q = never (cc)
      go (queue-full y) w q = limit-never-full y w

-- ---- all goals of a sink

module _ (S : Site) (start : ℕ) (start_in : start < volume S.room) (wide : 11 * S.config.limit.0 < S.places) where
  limit-attempts : (goal : ℕ) → goal < volume S.room → (n : ℕ) (blocked : List ℕ) (x : ℕ) → attempts n S start goal blocked ≢ goals.full x
  unfolding attempts after_search at_conflict
  limit-attempts goal h zero blocked x e = never (cc)
  limit-attempts goal h (suc n) blocked x e = after (searched_for (site_task S blocked start goal)) refl e (limit-attempts goal h n)
    where
      at : (p : List ℕ) (c : ℕ) (place : Option ℕ) → at_conflict blocked start goal (attempts n S start goal) (found p c) place ≡ goals.full x
          → ((more : List ℕ) (y : ℕ) → attempts n S start goal more ≢ goals.full y) → ⊥
      at p c None q later = never (cc)
      at p c (Some v) q later =
          ask (ends_goal blocked start goal v) (λ t. never (cc (rw t at q))) (λ no. later (marked_by (eqb v) blocked) x (rw no at q))

      after : (trial : Trial) → searched_for (site_task S blocked start goal) ≡ trial → after_search S blocked start goal (attempts n S start goal) trial ≡ goals.full x
          → ((more : List ℕ) (y : ℕ) → attempts n S start goal more ≢ goals.full y) → ⊥
      after (found p c) w q later = at p c (conflict_of S.room S.kinds S.joinable p) q later
      after failed w q later = never (cc)
      after (goals.full y) w q later = limit_search (site_task S blocked start goal) start_in h wide y w

  pub limit-never : (blocked : List ℕ) → NeverFull S start blocked
  unfolding tried_goal
  limit-never blocked = record {
    never = λ goal h x e. ask (is_marked S.joinable goal) (λ t. limit-attempts goal h max_attempts blocked x (rw t at e)) (λ f. never (cc (rw f at e)));
  }
