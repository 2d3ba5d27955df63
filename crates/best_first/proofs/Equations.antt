-- The equations of the search, one for each case of its definitions.
use Rattle.std.specs.Prelude.{◌≡◌, refl, ◌⊎◌, ◌≢◌, true, false, List, [], ◌∷◌, length, get_or, set}
use Rattle.std.proofs.Common.{inl, inr, arith}
use Prim.Native.Nat.{ℕ, zero, suc, ◌+◌, ◌≤◌, ◌<◌, suc-le-suc}
use borrow.Author.Tests.{ltb-true, ltb-false, lt-ltb, le-ltb, eq-eqb, ne_eqb}
use Rattle.basics.specs.Tests.{ask_same, never}
use Rattle.best_first.specs.Search.{Graph, Move, Entry, State, Taken, full, on, offer, expand, push, cheaper, trace, least, Answer, no_route, limit-passed, queue-full, ends, expands, arrived, one_more_expanded, take_one, take_all}
use Rattle.best_first.specs.Statements.{Taking, known_at, cost_of}
use Rattle.best_first.proofs.Entries.{taking}

-- the known costs once the move m of a cell of cost d has been taken up
abbrev pub offered : State → ℕ → Move → List ℕ
offered s d m = set s.known m.to (suc (d + m.cost))

-- ---- is a cost lower than what is noted?

-- x is lower than what is noted (costs with 1 added), or nothing is
abbrev pub Gain : ℕ → ℕ → Type 0
Gain x k = (k ≡ 0) ⊎ (x < k)

pub cheaper_true : (c k : ℕ) → cheaper c k ≡ true → Gain (suc c) k
cheaper_true c zero e = inl refl
cheaper_true c (suc k) e = inr (suc-le-suc (ltb-true c k e))

pub cheaper_false : (c k : ℕ) → cheaper c k ≡ false → (0 < k) × (k ≤ suc c)
cheaper_false c zero e = never (cc)
cheaper_false c (suc k) e = omega (arith, ltb-false c k e)

pub is-cheaper : (c k : ℕ) → Gain (suc c) k → cheaper c k ≡ true
is-cheaper c zero h = refl
is-cheaper c (suc k) (inl e) = absurd (omega arith)
is-cheaper c (suc k) (inr h) = lt-ltb c k (omega arith)

pub no_cheaper : (c k : ℕ) → 0 < k → k ≤ suc c → cheaper c k ≡ false
no_cheaper c zero p q = absurd (omega arith)
no_cheaper c (suc k) p q = le-ltb c k (omega arith)

-- what is noted and not above x is no gain
pub no_gain : {x k : ℕ} → Gain x k → 0 < k → k ≤ x → ⊥
no_gain (inl e) p q = omega arith
no_gain (inr h) p q = omega arith

-- ---- one offer

module _ (G : Graph) (u v c : ℕ) (s : State) where
  pub offer_skip : cheaper c (known_at s v) ≡ false → offer G u v c s ≡ on s
  unfolding offer
  offer_skip e = rw e

  pub offer-push : cheaper c (known_at s v) ≡ true → length s.waiting < G.places → offer G u v c s ≡ on (push G u v c s)
  unfolding offer
  offer-push e r = rw (e, lt-ltb _ _ r)

  pub offer-full : cheaper c (known_at s v) ≡ true → G.places ≤ length s.waiting → offer G u v c s ≡ full
  unfolding offer
  offer-full e r = rw (e, le-ltb _ _ r)

-- ---- the moves one by one

pub expand-none : (G : Graph) (u d : ℕ) (s : State) → expand G u d [] s ≡ on s
unfolding expand
expand-none G u d s = refl

module _ (G : Graph) (u d : ℕ) (m : Move) (ms : List Move) (s : State) where
  pub expand-on : (r : State) → offer G u m.to (d + m.cost) s ≡ on r → expand G u d (m ∷ ms) s ≡ expand G u d ms r
  unfolding expand
  expand-on r e = rw (e, expand)

  pub expand-stop : offer G u m.to (d + m.cost) s ≡ full → expand G u d (m ∷ ms) s ≡ full
  unfolding expand
  expand-stop e = rw (e, expand)

  pub expand_skip : cheaper (d + m.cost) (known_at s m.to) ≡ false → expand G u d (m ∷ ms) s ≡ expand G u d ms s
  expand_skip e = expand-on s (offer_skip G u _ _ s e)

  pub expand-push : cheaper (d + m.cost) (known_at s m.to) ≡ true → length s.waiting < G.places
      → expand G u d (m ∷ ms) s ≡ expand G u d ms (push G u m.to (d + m.cost) s)
  expand-push e r = expand-on _ (offer-push G u _ _ s e r)

  pub expand-full : cheaper (d + m.cost) (known_at s m.to) ≡ true → G.places ≤ length s.waiting → expand G u d (m ∷ ms) s ≡ full
  expand-full e r = expand-stop (offer-full G u _ _ s e r)

-- ---- a taking

module _ (G : Graph) (s : State) where
  pub take_none : s.waiting ≡ [] → take_one G s ≡ ends (no_route s.expanded)
  unfolding take_one
  take_none e = rw e

  module _ (e : Entry) (es : List Entry) (q : s.waiting ≡ e ∷ es) where
    pub take_goal : (least e es).next.cell ≡ G.goal → take_one G s ≡ ends (arrived G s)
    unfolding take_one
    take_goal t = rw (q, eq-eqb _ _ t)

    pub take_on : (least e es).next.cell ≢ G.goal → take_one G s ≡ expands (least e es).next.cell (one_more_expanded s (least e es).left)
    unfolding take_one
    take_on t = rw (q, ne_eqb _ _ t)

-- nothing waits, or the goal is taken, or a cell is to be expanded
pub data TakeCases (G : Graph) (s : State) : Type 0 where
  none-waits : s.waiting ≡ [] → take_one G s ≡ ends (no_route s.expanded) → TakeCases G s
  goal-taken : (t : Taken) → Taking s.waiting t → t.next.cell ≡ G.goal → take_one G s ≡ ends (arrived G s) → TakeCases G s
  goes_on : (t : Taken) → Taking s.waiting t → t.next.cell ≢ G.goal → take_one G s ≡ expands t.next.cell (one_more_expanded s t.left) → TakeCases G s

pub take_cases : (G : Graph) (s : State) → TakeCases G s
take_cases G s = go s.waiting refl
  where
    go : (w : List Entry) → s.waiting ≡ w → TakeCases G s
    go [] q = none-waits q (take_none G s q)
    go (e ∷ es) q =
        let k : Taking s.waiting (least e es) = rw q (taking e es) in
        ask_same (least e es).next.cell G.goal
        (λ t. goal-taken (least e es) k t (take_goal G s e es q t))
        (λ f. goes_on (least e es) k f (take_on G s e es q f))

-- ---- a run

module _ (G : Graph) (s : State) where
  pub take_all_ends : (b : ℕ) (a : Answer) → take_one G s ≡ ends a → take_all G b s ≡ a
  unfolding take_all
  take_all_ends zero a e = rw (e, take_all)
  take_all_ends (suc b) a e = rw (e, take_all)

  module _ (u : ℕ) (t : State) (e : take_one G s ≡ expands u t) where
    pub take_all_limit : take_all G zero s ≡ limit-passed t.expanded
    unfolding take_all
    take_all_limit = rw (e, take_all)

    pub take_all_full : (b : ℕ) → expand G u (cost_of t u) (G.moves u) t ≡ full → take_all G (suc b) s ≡ queue-full t.expanded
    unfolding take_all
    take_all_full b r = rw (e, r, take_all)

    pub take_all_on : (b : ℕ) (t' : State) → expand G u (cost_of t u) (G.moves u) t ≡ on t' → take_all G (suc b) s ≡ take_all G b t'
    unfolding take_all
    take_all_on b t' r = rw (e, r, take_all)

-- ---- the path by predecessors

pub trace-start : (n : ℕ) (previous : List ℕ) (v : ℕ) (rest : List ℕ) → get_or previous v 0 ≡ 0 → trace (suc n) previous v rest ≡ v ∷ rest
unfolding trace
trace-start n previous v rest e = rw (e, trace)

pub trace-back : (n : ℕ) (previous : List ℕ) (v u : ℕ) (rest : List ℕ) → get_or previous v 0 ≡ suc u → trace (suc n) previous v rest ≡ trace n previous u (v ∷ rest)
unfolding trace
trace-back n previous v u rest e = rw (e, trace)
