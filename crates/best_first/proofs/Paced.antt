-- What is counted of the pushes while the keys taken rise, and what a bound on the pushes says of an answer.
use Rattle.std.specs.Prelude.{◌≡◌, ℕ, suc, ◌+◌, ◌≤◌, ◌<◌, get_or, set, replicate}
use Rattle.std.proofs.Math.Path.{refl}
use mathlib.Core.List.{List, [], ◌∷◌}
use Rattle.std.proofs.Common.{arith}
use Rattle.std.proofs.Math.ListN.{length}
use Rattle.basics.specs.Tests.{never}
use Rattle.best_first.specs.Search.{Graph, Move, Entry, State, Taken, push, one_more_expanded, first_state, Answer, queue-full, best_first}
use Rattle.best_first.specs.Ways.{Sound, Consistent}
use Rattle.best_first.specs.Statements.{Taking, known_at, pushes, Reached, expanded_of}
use Rattle.best_first.proofs.Equations.{Gain}
use Rattle.best_first.proofs.Reached.{Ending, empty, arrives, passes, fills, ending}
use Rattle.best_first.proofs.Base.{Base, Mid, push-mid, taken-known, taken-fresh}
use Rattle.best_first.proofs.Induction.{Invariant, invariant_holds, after-taking}
use Rattle.best_first.proofs.Rising.{Rising, first-rising, again-rising, anew-rising, still_open, push-rising}

-- what is to hold, with the moves due and the last key taken, and that each part of the search keeps it
pub record Measure (G : Graph) : Type 1 where
  pub Held : (closed : List ℕ) (due : List Move) (top : ℕ) (pushed : List ℕ) → State → Type 0
  pub begins : Held (replicate G.size 0) [] 0 [] (first_state G)
  pub later : {closed pushed : List ℕ} {top : ℕ} {s : State} (next : ℕ) (left : List Entry) → top ≤ next → Held closed [] top pushed s → Held closed [] next pushed (one_more_expanded s left)
  pub opens : {closed ages pushed : List ℕ} {w : ℕ} {s : State} {t : Taken} → Base G closed ages w [] s → Taking s.waiting t → get_or closed t.next.cell 0 ≡ 0
      → Held closed [] t.next.key pushed (one_more_expanded s t.left)
      → Held (set closed t.next.cell 1) (G.moves t.next.cell) t.next.key pushed (one_more_expanded s t.left)
  pub skips : {closed pushed : List ℕ} {top : ℕ} {m : Move} {ms : List Move} {s : State} → Held closed (m ∷ ms) top pushed s → Held closed ms top pushed s
  pub adds : {closed ages pushed : List ℕ} {u d top : ℕ} {m : Move} {ms : List Move} {s : State} → Mid G closed ages u d (m ∷ ms) s → Held closed (m ∷ ms) top pushed s
      → top ≡ d + G.estimate u → get_or closed m.to 0 ≡ 0 → Gain (suc (d + m.cost)) (known_at s m.to)
      → Held (set closed m.to 0) ms top (m.to ∷ pushed) (push G u m.to (d + m.cost) s)

record Between {G : Graph} (E : Measure G) (closed pushed : List ℕ) (s : State) : Type 0 where
  top : ℕ
  rising : Rising G closed top s
  held : E.Held closed [] top pushed s
  balance : s.expanded + length s.waiting ≡ suc (length pushed)

record During {G : Graph} (E : Measure G) (closed : List ℕ) (u d : ℕ) (due : List Move) (pushed : List ℕ) (s : State) : Type 0 where
  top : ℕ
  rising : Rising G closed top s
  now : top ≡ d + G.estimate u
  held : E.Held closed due top pushed s
  balance : s.expanded + length s.waiting ≡ suc (length pushed)
  counts : 0 < s.expanded

-- one more push is due, into `next`, and the waiting entries fill the queue
record Full {G : Graph} (E : Measure G) (pushed : List ℕ) : Type 0 where
  closed : List ℕ
  goal_open : get_or closed G.goal 0 ≡ 0
  due : List Move
  top : ℕ
  next : ℕ
  state : State
  held : E.Held closed due top (next ∷ pushed) state
  many : G.places ≤ length pushed

-- ---- of an answer

-- what N pushes allow: each entry is taken at most once, the start's besides, and the queue is full only where one more push is due
pub record Frugal (G : Graph) (N : ℕ) (a : Answer) : Type 0 where
  pub expanded : expanded_of a ≤ N + 1
  pub spare : (x : ℕ) → a ≡ queue-full x → G.places < N

module _ {G : Graph} {degree dearest : ℕ} (S : Sound G degree dearest) (K : Consistent G) (E : Measure G) where
  paced : Invariant G
  unfolding first_state push
  paced = record {
    Between = Between E;
    During = During E;
    Full = Full E;
    begins = record { top = 0; rising = first-rising G; held = E.begins; balance = refl };
    again = λ B A k c. record {
      top = _;
      rising = again-rising B A.rising k;
      held = E.later _ _ (A.rising.late _ k.from) A.held;
      balance = omega (arith, A.balance, k.len);
    };
    anew = λ B A k o away. record {
      top = _;
      rising = anew-rising B A.rising k o;
      now = omega (arith, taken-fresh B k o, taken-known B k);
      held = E.opens B k o (E.later _ _ (A.rising.late _ k.from) A.held);
      balance = omega (arith, A.balance, k.len);
      counts = omega arith;
    };
    skips = λ M A. record { top = A.top; rising = A.rising; now = A.now; held = E.skips A.held; balance = A.balance; counts = A.counts };
    adds = λ M A gain. record {
      top = A.top;
      rising = push-rising M A.rising A.now K gain S;
      now = A.now;
      held = E.adds M A.held A.now (still_open M A.rising A.now K gain) gain;
      balance = omega (arith, A.balance);
      counts = A.counts;
    };
    stops = λ M A gain full. record {
      closed = _;
      goal_open = (push-mid M S gain).base.goal_open;
      due = _;
      top = A.top;
      next = _;
      state = _;
      held = E.adds M A.held A.now (still_open M A.rising A.now K gain) gain;
      many = omega (arith, A.balance, A.counts);
    };
    ends = λ M A. record { top = A.top; rising = A.rising; held = A.held; balance = A.balance };
  }

  -- a push that is due counts, made or not
  module _ (P : List ℕ → Type 0) (less : (x : ℕ) (l : List ℕ) → P (x ∷ l) → P l)
      (bound : (closed : List ℕ) (due : List Move) (top : ℕ) (pushed : List ℕ) (s : State) → get_or closed G.goal 0 ≡ 0 → E.Held closed due top pushed s → P pushed) where
    reached-holds : {l : List ℕ} {s : State} → Reached G l s → P l
    unfolding paced
    reached-holds {l} {s} R = let H = invariant_holds S paced R in bound H.closed [] H.besides.top l s H.base.goal_open H.besides.held

    full-holds : {l : List ℕ} → (F : Full E l) → P (F.next ∷ l)
    full-holds {l} F = bound F.closed F.due F.top (F.next ∷ l) F.state F.goal_open F.held

    holds_by : {n : ℕ} {a : Answer} {l : List ℕ} → Ending G n a l → P l
    unfolding paced
    holds_by (empty R q) = reached-holds R
    holds_by (arrives t R k q) = reached-holds R
    holds_by (passes t R k q e) = reached-holds R
    holds_by (fills t R k q e) = let F = rw e at (after-taking S paced (invariant_holds S paced R) k q) in less F.next _ (full-holds F)

    pub pushes_hold : (limit : ℕ) → P (pushes G limit)
    pushes_hold limit = holds_by (ending G limit)

  module _ (N : ℕ)
      (bound : (closed : List ℕ) (due : List Move) (top : ℕ) (pushed : List ℕ) (s : State) → get_or closed G.goal 0 ≡ 0 → E.Held closed due top pushed s → length pushed ≤ N) where
    less : (x : ℕ) (l : List ℕ) → length (x ∷ l) ≤ N → length l ≤ N
    less x l h = omega arith

    few : {l : List ℕ} {s : State} → Reached G l s → (length l ≤ N) × (s.expanded + length s.waiting ≡ suc (length l))
    unfolding paced
    few R = (reached-holds (λ l. length l ≤ N) less bound R, (invariant_holds S paced R).besides.balance)

    frugal-by : {n : ℕ} {a : Answer} {l : List ℕ} → Ending G n a l → Frugal G N a
    unfolding paced
    frugal-by (empty R q) = record { expanded = omega (arith, few R); spare = λ x e. never (cc) }
    frugal-by (arrives t R k q) = record { expanded = omega (arith, few R); spare = λ x e. never (cc) }
    frugal-by (passes t R k q p) = record { expanded = omega (arith, few R, k.len); spare = λ x e. never (cc) }
    frugal-by (fills t R k q p) =
        let F = rw p at (after-taking S paced (invariant_holds S paced R) k q) in
        record { expanded = omega (arith, few R, k.len); spare = λ x e. omega (arith, F.many, full-holds (λ l. length l ≤ N) less bound F) }

    pub frugal : (limit : ℕ) → Frugal G N (best_first G limit)
    frugal limit = frugal-by (ending G limit)
