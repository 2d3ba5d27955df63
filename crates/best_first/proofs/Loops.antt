-- The invariants of a search's two loops, for code: over the takings, and over the moves of one cell. Both speak of a state whose waiting list
-- stands in whatever order a heap leaves it.
use Rattle.std.specs.Prelude.{◌≡◌, refl, ◌≢◌, true, false, List, [], ◌∷◌, ℕ, suc, ◌+◌, ◌-◌, ◌≤◌, ◌<◌, length}
use Rattle.std.proofs.Common.{sym, ap, ◌∙◌, arith}
use Rattle.best_first.specs.Search.{Graph, Move, Entry, State, Pushed, full, on, expand, push, cheaper, Answer, no_route, limit-passed, queue-full, arrived, one_more_expanded, take_all, first_state, best_first}
use Rattle.best_first.specs.Ways.{Sound}
use Rattle.best_first.specs.Statements.{known_at, cost_of, Reached, at_first, then, Bounded, outcome}
use Rattle.best_first.proofs.Entries.{TakenOut, taken-out-same, taken-out-taking}
use Rattle.best_first.proofs.Equations.{cheaper_true, expand-none, expand_skip, expand-push, expand-full, take_none, take_all_ends}
use Rattle.best_first.proofs.Reached.{expanded-stays}
use Rattle.best_first.proofs.Orders.{Apart, Alike, alike_refl, alike_sym, alike_trans, alike-apart, first-apart, push-apart, Both, expand-both, expanded-apart, take_all_both, out-goal, out-limit, out-full, out-on}
use Rattle.best_first.proofs.Bounds.{Still, bounded, alike-sane, alike-still, skip_still, push-still, take_still, sane}

-- ---- the moves of u, whose cost is d: the outcome of all is x, and `due` are still to be tried

pub record Trying (G : Graph) (degree dearest u d : ℕ) (x : Pushed) (due : List Move) (s : State) : Type 0 where
  still : Still G degree dearest u d due s
  pub apart : Apart s
  pub fits : length s.waiting ≤ G.places
  pub rest : Both (expand G u d due s) x

both_join : (a b c : Pushed) → Both a b → Both a c → Both b c
both_join full full full p q = tt
both_join full full (on t) p q = absurd q
both_join full (on s) c p q = absurd p
both_join (on r) full c p q = absurd p
both_join (on r) (on s) full p q = absurd q
both_join (on r) (on s) (on t) p q = (alike-apart p.1 p.0, alike_trans (alike_sym p.1) q.1)

module _ {G : Graph} {degree dearest : ℕ} (S : Sound G degree dearest) {u d : ℕ} {x : Pushed} where
  module _ {m : Move} {ms : List Move} {s : State} (T : Trying G degree dearest u d x (m ∷ ms) s) where
    -- the move offers no lower cost
    pub trying_skip : cheaper (d + m.cost) (known_at s m.to) ≡ false → Trying G degree dearest u d x ms s
    trying_skip e = record { still = skip_still S T.still; apart = T.apart; fits = T.fits; rest = rw (expand_skip G u d m ms s e) at T.rest }

    module _ (e : cheaper (d + m.cost) (known_at s m.to) ≡ true) where
      -- it does, and the entry is pushed, wherever the heap puts it
      pub trying_push : length s.waiting < G.places → (t : State) → Alike (push G u m.to (d + m.cost) s) t → Trying G degree dearest u d x ms t
      unfolding push
      trying_push r t L =
          let A : Apart (push G u m.to (d + m.cost) s) = push-apart G u m.to (d + m.cost) s T.apart in
          record {
            still = alike-still L (push-still S T.still (cheaper_true _ _ e));
            apart = alike-apart L A;
            fits = omega (arith, L.waiting.many);
            rest = both_join (expand G u d ms (push G u m.to (d + m.cost) s)) (expand G u d ms t) x (expand-both G u d ms _ t A L)
                (rw (expand-push G u d m ms s e r) at T.rest);
          }

      -- it does, and no place is left
      pub trying_full : G.places ≤ length s.waiting → x ≡ full
      trying_full r = go x (rw (expand-full G u d m ms s e r) at T.rest)
        where
          go : (y : Pushed) → Both full y → y ≡ full
          go full p = refl
          go (on t) p = absurd p

  -- nothing is due any more: the outcome is this state, but for the order
  trying_done : {s : State} → Trying G degree dearest u d x [] s → (t : State) × (x ≡ on t) × Alike s t
  trying_done {s} T = go x (rw (expand-none G u d s) at T.rest)
    where
      go : (y : Pushed) → Both (on s) y → (t : State) × (y ≡ on t) × Alike s t
      go full p = absurd p
      go (on t) p = (t, refl, p.1)

-- ---- the takings: of at most n expanded, the answer is R

-- `model` is a state reached by the definition, but for the order of its waiting list
pub record Going (G : Graph) (n : ℕ) (R : Answer) (s : State) : Type 0 where
  pushed : List ℕ
  model : State
  reached : Reached G pushed model
  alike : Alike model s
  pub apart : Apart s
  pub fits : length s.waiting ≤ G.places
  pub within : s.expanded ≤ n
  pub rest : take_all G (n - s.expanded) s ≡ R

pub going-first : (G : Graph) (n : ℕ) → 0 < G.places → Going G n (best_first G n) (first_state G)
unfolding best_first first_state
going-first G n h = record {
  pushed = [];
  model = first_state G;
  reached = at_first;
  alike = alike_refl _;
  apart = first-apart G;
  fits = h;
  within = omega arith;
  rest = ap (λ (b : ℕ). take_all G b (first_state G)) (omega arith);
}

-- the waiting list may stand in any order
pub going-alike : {G : Graph} {n : ℕ} {R : Answer} {s t : State} → Going G n R s → Alike s t → Going G n R t
going-alike {G} {n} {R} {s} {t} I L = record {
  pushed = I.pushed;
  model = I.model;
  reached = I.reached;
  alike = alike_trans I.alike L;
  apart = alike-apart L I.apart;
  fits = omega (arith, I.fits, L.waiting.many);
  within = omega (arith, I.within, L.expanded);
  rest = rw L.expanded at (sym (take_all_both G (n - s.expanded) s t I.apart L) ∙ I.rest);
}

pub going-bounded : {G : Graph} {degree dearest n : ℕ} {R : Answer} {s : State} → Sound G degree dearest → Going G n R s → Bounded G degree dearest s
going-bounded S I = bounded S (alike-sane I.alike (sane S I.reached))

module _ {G : Graph} {n : ℕ} {R : Answer} {s : State} (I : Going G n R s) where
  pub going-none : s.waiting ≡ [] → R ≡ no_route s.expanded
  going-none e = sym I.rest ∙ take_all_ends G s _ _ (take_none G s e)

  module _ {r : Entry} {q : List Entry} (P : TakenOut s.waiting r q) where
    pub going-goal : r.cell ≡ G.goal → R ≡ arrived G s
    going-goal e = sym I.rest ∙ out-goal G s r q I.apart P _ e

    module _ (away : r.cell ≢ G.goal) where
      pub going-limit : n ≤ s.expanded → R ≡ limit-passed (suc s.expanded)
      going-limit h = sym I.rest ∙ ap (λ (b : ℕ). take_all G b s) (omega arith) ∙ out-limit G s r q I.apart P away

      module _ (more : s.expanded < n) where
        left : n - s.expanded ≡ suc (n - suc s.expanded)
        left = omega arith

        -- the moves of the cell taken are tried: the queue is full, or the search goes on
        pub going-full : outcome G s r q ≡ full → R ≡ queue-full (suc s.expanded)
        going-full e = sym I.rest ∙ ap (λ (b : ℕ). take_all G b s) left ∙ out-full G s r q I.apart P away _ e

        module _ {degree dearest : ℕ} (S : Sound G degree dearest) where
          pub going_try : Trying G degree dearest r.cell (cost_of s r.cell) (outcome G s r q)
              (G.moves r.cell) (one_more_expanded s q)
          going_try =
              let A = expanded-apart s r q I.apart P in
              record {
                still = take_still S (alike-sane I.alike (sane S I.reached)) (taken-out-taking P);
                apart = A;
                fits = omega (arith, P.same.many, I.fits);
                rest = expand-both G r.cell _ (G.moves r.cell) _ _ A (alike_refl _);
              }

          pub going_on : {t : State}
              → Trying G degree dearest r.cell (cost_of s r.cell) (outcome G s r q) [] t
              → Going G n R t
          going_on {t} T =
              let D = trying_done S T in
              let x : D.0.expanded ≡ suc s.expanded = expanded-stays G _ _ _ _ D.0 D.1 in
              record {
                pushed = _;
                model = D.0;
                reached = then {r = D.0} (record { next = r; left = q }) I.reached (taken-out-taking (taken-out-same I.alike.waiting P)) away
                    (rw (I.alike.known, I.alike.previous, I.alike.serial, I.alike.expanded) D.1);
                alike = alike_sym D.2;
                apart = T.apart;
                fits = T.fits;
                within = omega (arith, D.2.expanded);
                rest = take_all_both G _ t D.0 T.apart D.2 ∙ ap (λ (b : ℕ). take_all G b D.0) (omega (arith, D.2.expanded))
                    ∙ sym (out-on G s r q I.apart P away (n - suc s.expanded) D.0 D.1) ∙ ap (λ (b : ℕ). take_all G b s) (sym left) ∙ I.rest;
              }
