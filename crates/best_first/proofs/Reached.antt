-- How a search ends, and what holds of each move of a cell holds of all: with these, what is shown of the states reached is shown of every answer.
use Rattle.std.specs.Prelude.{◌≡◌, ◌≢◌, length, ltb}
use Rattle.std.proofs.Math.Path.{refl}
use mathlib.Core.List.{List, [], ◌∷◌}
use Prim.Native.Nat.{ℕ, zero, suc, ◌+◌, ◌≤◌, ◌<◌}
use Rattle.std.proofs.Common.{arith, ltb-true, ltb-false}
use Rattle.basics.specs.Tests.{ask}
use Rattle.best_first.specs.Search.{Graph, Move, State, Taken, Pushed, full, on, expand, push, cheaper, Answer, no_route, limit-passed, queue-full, arrived, take_all, first_state, best_first}
use Rattle.best_first.specs.Statements.{Taking, known_at, outcome, entered, entered_by, Reached, at_first, then, pushed_by, pushes}
use Rattle.best_first.proofs.Equations.{cheaper_true, cheaper_false, expand_skip, expand-push, expand-full, TakeCases, none-waits, goal-taken, goes_on, take_cases, take_all_ends, take_all_limit, take_all_full, take_all_on, Gain}

-- how a search ends at node limit n, and the cells that it pushed
pub data Ending (G : Graph) (n : ℕ) : Answer → List ℕ → Type 0 where
  empty : {l : List ℕ} {s : State} → Reached G l s → s.waiting ≡ [] → Ending G n (no_route s.expanded) l
  arrives : {l : List ℕ} {s : State} (t : Taken) → Reached G l s → Taking s.waiting t → t.next.cell ≡ G.goal → Ending G n (arrived G s) l
  passes : {l : List ℕ} {s : State} (t : Taken) → Reached G l s → Taking s.waiting t → t.next.cell ≢ G.goal → s.expanded ≡ n
      → Ending G n (limit-passed (suc s.expanded)) l
  fills : {l : List ℕ} {s : State} (t : Taken) → Reached G l s → Taking s.waiting t → t.next.cell ≢ G.goal
      → outcome G s t.next t.left ≡ full
      → Ending G n (queue-full (suc s.expanded))
      (entered_by G s t.next t.left l)

-- ---- the moves of u, whose cost is d, one by one

-- P speaks of the moves still due, the cells pushed and the state; F of the cells pushed where the queue is full
abbrev pub PushComes : (List Move → List ℕ → State → Type 0) → (List ℕ → Type 0) → List ℕ → Pushed → Type 0
PushComes P F l full = F l
PushComes P F l (on r) = P [] l r

module _ (G : Graph) (u d : ℕ) (P : List Move → List ℕ → State → Type 0) (F : List ℕ → Type 0)
    (skips : (m : Move) (ms : List Move) (l : List ℕ) (s : State) → P (m ∷ ms) l s
    → (0 < known_at s m.to) × (known_at s m.to ≤ suc (d + m.cost)) → P ms l s)
    (adds : (m : Move) (ms : List Move) (l : List ℕ) (s : State) → P (m ∷ ms) l s
    → Gain (suc (d + m.cost)) (known_at s m.to) → length s.waiting < G.places
    → P ms (m.to ∷ l) (push G u m.to (d + m.cost) s))
    (stops : (m : Move) (ms : List Move) (l : List ℕ) (s : State) → P (m ∷ ms) l s
    → Gain (suc (d + m.cost)) (known_at s m.to) → G.places ≤ length s.waiting → F l) where
  pub through : (ms : List Move) (l : List ℕ) (s : State) → P ms l s → PushComes P F (entered G u d ms s l) (expand G u d ms s)
  unfolding expand entered
  through [] l s p = p
  through (m ∷ ms) l s p =
      ask (cheaper (d + m.cost) (known_at s m.to))
      (λ y. ask (ltb (length s.waiting) G.places)
      (λ r. rw (expand-push G u d m ms s y (ltb-true _ _ r)) (rw (y, r, entered) (through ms (m.to ∷ l) _ (adds m ms l s p (cheaper_true _ _ y) (ltb-true _ _ r)))))
      (λ r. rw (expand-full G u d m ms s y (ltb-false _ _ r)) (rw (y, r, entered) (stops m ms l s p (cheaper_true _ _ y) (ltb-false _ _ r)))))
      (λ n. rw (expand_skip G u d m ms s n) (rw (n, entered) (through ms l s (skips m ms l s p (cheaper_false _ _ n)))))

-- a move that is tried changes no expanded count
pub expanded-stays : (G : Graph) (u d : ℕ) (ms : List Move) (s r : State) → expand G u d ms s ≡ on r → r.expanded ≡ s.expanded
unfolding push
expanded-stays G u d ms s r e =
    rw e at (through G u d (λ ms l t. t.expanded ≡ s.expanded) (λ l. Unit {0}) (λ m ms l t p f. p) (λ m ms l t p g h. p) (λ m ms l t p g h. tt) ms [] s refl)

-- ---- every search ends so

module _ (G : Graph) (n : ℕ) where
  all_end : (b : ℕ) (l : List ℕ) (s : State) → Reached G l s → s.expanded + b ≡ n → Ending G n (take_all G b s) (pushed_by G b s l)
  unfolding pushed_by
  all_end zero l s R e = go (take_cases G s)
    where
      go : TakeCases G s → Ending G n (take_all G zero s) l
      go (none-waits q t) = rw (take_all_ends G s zero _ t) (empty R q)
      go (goal-taken k T q t) = rw (take_all_ends G s zero _ t) (arrives k R T q)
      go (goes_on k T q t) = rw (take_all_limit G s _ _ t) (passes k R T q (omega arith))
  all_end (suc b) l s R e = go (take_cases G s) (λ l' s'. all_end b l' s')
    where
      go : TakeCases G s → ((l' : List ℕ) (s' : State) → Reached G l' s' → s'.expanded + b ≡ n → Ending G n (take_all G b s') (pushed_by G b s' l'))
          → Ending G n (take_all G (suc b) s) (pushed_by G (suc b) s l)
      go (none-waits q t) ih = rw (take_all_ends G s (suc b) _ t) (rw (t, pushed_by) (empty R q))
      go (goal-taken k T q t) ih = rw (take_all_ends G s (suc b) _ t) (rw (t, pushed_by) (arrives k R T q))
      go (goes_on k T q t) ih = out _ refl
        where
          out : (x : Pushed) → outcome G s k.next k.left ≡ x
              → Ending G n (take_all G (suc b) s) (pushed_by G (suc b) s l)
          out full f = rw (take_all_full G s _ _ t b f) (rw (t, f, pushed_by) (fills k R T q f))
          out (on r) f = rw (take_all_on G s _ _ t b r f) (rw (t, f, pushed_by)
              (ih _ r (then k R T q f) (omega (arith, expanded-stays G _ _ _ _ r f))))

  pub ending : Ending G n (best_first G n) (pushes G n)
  unfolding best_first first_state
  ending = all_end n [] (first_state G) at_first (omega arith)
