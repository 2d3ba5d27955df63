-- What holds besides the base, by induction over the states reached.
use Rattle.std.specs.Prelude.{◌≡◌, ◌⊎◌, ◌≢◌, List, [], ◌∷◌, ℕ, suc, ◌+◌, ◌≤◌, ◌<◌, length, get_or, set, replicate}
use Rattle.std.proofs.Common.{inl, inr, eq-zero-or-pos}
use Rattle.best_first.specs.Search.{Graph, Move, State, Taken, Pushed, full, on, push, one_more_expanded, first_state}
use Rattle.best_first.specs.Ways.{Sound}
use Rattle.best_first.specs.Statements.{Taking, known_at, cost_of, Reached, at_first, then, outcome, entered_by}
use Rattle.best_first.proofs.Equations.{Gain}
use Rattle.best_first.proofs.Reached.{PushComes, through}
use Rattle.best_first.proofs.Base.{Base, Mid, skip_mid, push-mid, again-base, again-outcome, again-entered, anew-mid, first-base}

-- what is to hold between two takings, while moves are due, and where the queue is full; and that each part of the search keeps it
pub record Invariant (G : Graph) : Type 1 where
  pub Between : (closed pushed : List ℕ) → State → Type 0
  pub During : (closed : List ℕ) (u d : ℕ) (due : List Move) (pushed : List ℕ) → State → Type 0
  pub Full : (pushed : List ℕ) → Type 0
  pub begins : Between (replicate G.size 0) [] (first_state G)
  pub again : {closed ages pushed : List ℕ} {w : ℕ} {s : State} {t : Taken} → Base G closed ages w [] s → Between closed pushed s → Taking s.waiting t
      → 0 < get_or closed t.next.cell 0 → Between closed pushed (one_more_expanded s t.left)
  pub anew : {closed ages pushed : List ℕ} {w : ℕ} {s : State} {t : Taken} → Base G closed ages w [] s → Between closed pushed s → Taking s.waiting t
      → get_or closed t.next.cell 0 ≡ 0 → t.next.cell ≢ G.goal
      → During (set closed t.next.cell 1) t.next.cell (cost_of s t.next.cell) (G.moves t.next.cell) pushed (one_more_expanded s t.left)
  pub skips : {closed ages pushed : List ℕ} {u d : ℕ} {m : Move} {ms : List Move} {s : State} → Mid G closed ages u d (m ∷ ms) s
      → During closed u d (m ∷ ms) pushed s → During closed u d ms pushed s
  pub adds : {closed ages pushed : List ℕ} {u d : ℕ} {m : Move} {ms : List Move} {s : State} → Mid G closed ages u d (m ∷ ms) s
      → During closed u d (m ∷ ms) pushed s → Gain (suc (d + m.cost)) (known_at s m.to)
      → During (set closed m.to 0) u d ms (m.to ∷ pushed) (push G u m.to (d + m.cost) s)
  pub stops : {closed ages pushed : List ℕ} {u d : ℕ} {m : Move} {ms : List Move} {s : State} → Mid G closed ages u d (m ∷ ms) s
      → During closed u d (m ∷ ms) pushed s → Gain (suc (d + m.cost)) (known_at s m.to) → G.places ≤ length s.waiting → Full pushed
  pub ends : {closed ages pushed : List ℕ} {u d : ℕ} {s : State} → Mid G closed ages u d [] s → During closed u d [] pushed s → Between closed pushed s

pub record Holds {G : Graph} (E : Invariant G) (pushed : List ℕ) (s : State) : Type 0 where
  pub closed : List ℕ
  pub ages : List ℕ
  pub last : ℕ
  pub base : Base G closed ages last [] s
  pub besides : E.Between closed pushed s

record Midway {G : Graph} (E : Invariant G) (u d : ℕ) (due : List Move) (pushed : List ℕ) (s : State) : Type 0 where
  closed : List ℕ
  ages : List ℕ
  mid : Mid G closed ages u d due s
  during : E.During closed u d due pushed s

module _ {G : Graph} {degree dearest : ℕ} (S : Sound G degree dearest) (E : Invariant G) where
  pub after-taking : {pushed : List ℕ} {s : State} {t : Taken} → Holds E pushed s → Taking s.waiting t → t.next.cell ≢ G.goal
      → PushComes (λ due. Holds E) E.Full (entered_by G s t.next t.left pushed) (outcome G s t.next t.left)
  after-taking {pushed} {s} {t} H k away = go (eq-zero-or-pos (get_or H.closed u 0))
    where
      u : ℕ
      u = t.next.cell

      d : ℕ
      d = cost_of s t.next.cell

      finish : (l : List ℕ) (x : Pushed) → PushComes (Midway E u d) E.Full l x → PushComes (λ due. Holds E) E.Full l x
      finish l full h = h
      finish l (on r) h = record { closed = h.closed; ages = h.ages; last = u; base = h.mid.base; besides = E.ends h.mid h.during }

      go : (get_or H.closed u 0 ≡ 0) ⊎ (0 < get_or H.closed u 0)
          → PushComes (λ due. Holds E) E.Full (entered_by G s t.next t.left pushed) (outcome G s t.next t.left)
      go (inl o) =
          finish (entered_by G s t.next t.left pushed) (outcome G s t.next t.left) (through G u d (Midway E u d) E.Full
          (λ m ms l r T f. record { closed = T.closed; ages = T.ages; mid = skip_mid T.mid f; during = E.skips T.mid T.during })
          (λ m ms l r T g p. record { closed = _; ages = _; mid = push-mid T.mid S g; during = E.adds T.mid T.during g })
          (λ m ms l r T g p. E.stops T.mid T.during g p) (G.moves u) pushed (one_more_expanded s t.left)
          (record { closed = _; ages = _; mid = anew-mid H.base k away; during = E.anew H.base H.besides k o away }))
      go (inr c) =
          rw (again-outcome H.base k c, again-entered H.base k c pushed)
          (record { closed = H.closed; ages = H.ages; last = H.last; base = again-base H.base k c; besides = E.again H.base H.besides k c })

  pub invariant_holds : {pushed : List ℕ} {s : State} → Reached G pushed s → Holds E pushed s
  invariant_holds at_first = record { closed = _; ages = _; last = 0; base = first-base S; besides = E.begins }
  invariant_holds (then t R k away e) = rw e at (after-taking (invariant_holds R) k away)

-- the base, and nothing besides
pub bare : (G : Graph) → Invariant G
bare G = record {
  Between = λ closed pushed s. Unit {0};
  During = λ closed u d due pushed s. Unit {0};
  Full = λ pushed. Unit {0};
  begins = tt;
  again = λ B x k c. tt;
  anew = λ B x k o a. tt;
  skips = λ M y. tt;
  adds = λ M y g. tt;
  stops = λ M y g p. tt;
  ends = λ M y. tt;
}
