-- At any costs and any estimate: when the goal is taken, every cell on its way back is closed, so the path's steps add up to its cost.
-- The cells before others form a tree. Of two open cells the one nearer the start has the lower key; and a closed cell's key is not above both
-- that of an open cell behind it and that of an open cell elsewhere.
use Rattle.std.specs.Prelude.{◌≡◌, ◌⊎◌, ◌≢◌, List, [], ◌∷◌, ℕ, suc, ◌+◌, ◌≤◌, ◌<◌, max, length, get_or, set}
use Rattle.std.proofs.Common.{sym, ap, ◌∙◌, inl, inr, arith, eq-zero-or-pos, get_or-set_same, get_or-set_other}
use Rattle.std.proofs.Math.Decide.{ℕ_discrete}
use Rattle.basics.specs.Tests.{ask_same, ask_less}
use Rattle.basics.specs.Lists.{In}
use Rattle.basics.specs.Zeros.{zeros}
use Rattle.best_first.specs.Search.{Graph, Move, State, Taken, push, first_state, trace}
use Rattle.best_first.specs.Ways.{Sound}
use Rattle.best_first.specs.Statements.{Taking, known_at, cost_of, Reached, Lawful}
use Rattle.best_first.specs.ListsAfterSet.{AfterStore, hit, miss}
use Rattle.best_first.proofs.Equations.{Gain, no_gain, offered}
use Rattle.best_first.proofs.Predecessors.{Linked, Link, Origin, start-alone}
use Rattle.best_first.proofs.Base.{Base, Mid, due-lawful, still-closed, same, now-known, all-loose, taken-fresh, mark-taken}
use Rattle.best_first.proofs.Induction.{Invariant, Holds, invariant_holds}
use Rattle.best_first.proofs.Trail.{Up, here, further-up, goal-trail}

record Open (closed known : List ℕ) (v : ℕ) : Type 0 where
  is_known : 0 < get_or known v 0
  unmarked : get_or closed v 0 ≡ 0

abbrev key : Graph → List ℕ → ℕ → ℕ
key G known v = get_or known v 0 + G.estimate v

-- of two open cells on one way back, the one nearer the start has the lower key
abbrev Nearer : Graph → List ℕ → List ℕ → List ℕ → Type 0
Nearer G closed known previous = (a x : ℕ) → Open closed known a → Open closed known x → a ≢ x → Up previous a x → key G known a < key G known x

-- the order of the keys along the ways back, between two takings
record Hanging (G : Graph) (closed known previous : List ℕ) : Type 0 where
  nearer : Nearer G closed known previous
  between : (v x y : ℕ) → 0 < get_or closed v 0 → Open closed known x → Open closed known y → Up previous v x → (Up previous v y → ⊥)
      → key G known v ≤ max (key G known x) (key G known y)

-- while the moves of u are tried: u had the least key, so each closed cell is on one side of it
record HangingMid (G : Graph) (u : ℕ) (closed known previous : List ℕ) : Type 0 where
  above-closed : (v : ℕ) → Up previous v u → 0 < get_or closed v 0
  nearer : Nearer G closed known previous
  inner : (v x : ℕ) → 0 < get_or closed v 0 → (Up previous v u → ⊥) → Open closed known x → Up previous v x → key G known v ≤ key G known x
  outer : (v y : ℕ) → Up previous v u → Open closed known y → (Up previous v y → ⊥) → key G known v ≤ key G known y

-- costs fall on the way back
up-falls : {G : Graph} {ages known previous : List ℕ} {serial : ℕ} → Linked G ages known previous serial → {a x : ℕ} → Up previous a x → 0 < get_or known x 0
    → (0 < get_or known a 0) × (get_or known a 0 ≤ get_or known x 0)
up-falls {G} {ages} {known} {previous} L (here e) p = omega (arith, ap (λ (n : ℕ). get_or known n 0) e)
up-falls {G} {ages} {known} {previous} L {a} (further-up {x} {y} e up) p = go (L.link x p) (up-falls L up)
  where
    go : Origin G previous x ⊎ Link G ages known previous x → (0 < get_or known y 0 → (0 < get_or known a 0) × (get_or known a 0 ≤ get_or known y 0))
        → (0 < get_or known a 0) × (get_or known a 0 ≤ get_or known x 0)
    go (inl o) ih = absurd (omega (arith, o.no_previous))
    go (inr k) ih =
        let q : k.by ≡ y = omega (arith, k.noted) in
        omega (arith, ih (rw q at k.is_known), k.adds, ap (λ (n : ℕ). get_or known n 0) q)

-- ---- a taking of an open cell

module _ {G : Graph} {closed ages : List ℕ} {w : ℕ} {s : State} {t : Taken} (B : Base G closed ages w [] s) (T : Hanging G closed s.known s.previous) (k : Taking s.waiting t)
    (o : get_or closed t.next.cell 0 ≡ 0) where
  u_open : Open closed s.known t.next.cell
  u_open = record { is_known = (B.fair t.next k.from).is_known; unmarked = o }

  least-key : (y : ℕ) → Open closed s.known y → key G s.known t.next.cell ≤ key G s.known y
  least-key y O = let W = B.waits y O.is_known O.unmarked in omega (arith, W.fresh, k.low W.entry W.there, taken-fresh B k o)

  still : (y : ℕ) → Open (set closed t.next.cell 1) s.known y → Open closed s.known y
  still y O = go (mark-taken B k y)
    where
      go : AfterStore closed t.next.cell 1 y → Open closed s.known y
      go (hit e q) = absurd (omega (arith, O.unmarked))
      go (miss n q) = record { is_known = O.is_known; unmarked = sym q ∙ O.unmarked }

  -- the cells before u are closed: an open one would have been taken
  up-closed : (v : ℕ) → Up s.previous v t.next.cell → v ≢ t.next.cell → 0 < get_or closed v 0
  up-closed v up n = go (eq-zero-or-pos (get_or closed v 0))
    where
      go : (get_or closed v 0 ≡ 0) ⊎ (0 < get_or closed v 0) → 0 < get_or closed v 0
      go (inl z) =
          let O : Open closed s.known v = record { is_known = (up-falls B.linked up u_open.is_known).0; unmarked = z } in
          absurd (omega (arith, least-key v O, T.nearer v t.next.cell O u_open n up))
      go (inr c) = c

  anew-tried : HangingMid G t.next.cell (set closed t.next.cell 1) s.known s.previous
  anew-tried = record {
    above-closed = λ v up. above-closed v up (mark-taken B k v);
    nearer = λ a x O P. T.nearer a x (still a O) (still x P);
    inner = λ v x c f O up. inner v x c f (still x O) up (mark-taken B k v);
    outer = λ v y up O f. outer v y up (still y O) f;
  }
    where
      above-closed : (v : ℕ) → Up s.previous v t.next.cell → AfterStore closed t.next.cell 1 v → 0 < get_or (set closed t.next.cell 1) v 0
      above-closed v up (hit e q) = omega arith
      above-closed v up (miss n q) = omega (arith, up-closed v up n)

      inner : (v x : ℕ) → 0 < get_or (set closed t.next.cell 1) v 0 → (Up s.previous v t.next.cell → ⊥) → Open closed s.known x → Up s.previous v x
          → AfterStore closed t.next.cell 1 v → key G s.known v ≤ key G s.known x
      inner v x c f O up (hit e q) = absurd (f (here (sym e)))
      inner v x c f O up (miss n q) = omega (arith, T.between v x t.next.cell (omega arith) O u_open up f, least-key x O)

      outer : (v y : ℕ) → Up s.previous v t.next.cell → Open closed s.known y → (Up s.previous v y → ⊥) → key G s.known v ≤ key G s.known y
      outer v y up O f =
          ask_same v t.next.cell
          (λ e. omega (arith, least-key y O, ap (key G s.known) e))
          (λ n. omega (arith, T.between v t.next.cell y (up-closed v up n) u_open O up f, least-key y O))

-- ---- w is hung under u: w is not before u

module _ (previous : List ℕ) (w u : ℕ) (w_in : w < length previous) (free : Up previous w u → ⊥) where
  new : {x : ℕ} → x ≡ w → get_or (set previous w (suc u)) x 0 ≡ suc u
  new e = ap (λ (n : ℕ). get_or (set previous w (suc u)) n 0) e ∙ get_or-set_same previous w (suc u) 0 w_in

  old : (x : ℕ) → x ≢ w → get_or (set previous w (suc u)) x 0 ≡ get_or previous x 0
  old x n = get_or-set_other previous w x (suc u) 0 n

  -- a way back in the new tree is one in the old, or goes by way of w and u
  up_split : {a x : ℕ} → Up (set previous w (suc u)) a x → Up previous a x ⊎ (Up previous w x × Up (set previous w (suc u)) a u)
  up_split (here e) = inl (here e)
  up_split {a} (further-up {x} {y} e up) = go (ℕ_discrete x w) (up_split up)
    where
      go : Dec (x ≡ w) → Up previous a y ⊎ (Up previous w y × Up (set previous w (suc u)) a u) → Up previous a x ⊎ (Up previous w x × Up (set previous w (suc u)) a u)
      go (yes q) ih =
          let f : y ≡ u = omega (arith, new q) in
          inr (here q, rw f at up)
      go (no n) (inl r) = inl (further-up (sym (old x n) ∙ e) r)
      go (no n) (inr r) = inr (further-up (sym (old x n) ∙ e) r.0, r.1)

  -- u is where it was
  up_same : {a : ℕ} → Up (set previous w (suc u)) a u → Up previous a u
  up_same up = elim (up_split up) [ inl r ↦ r | inr r ↦ absurd (free r.0) ]

  up-stays : {a x : ℕ} → Up previous a x → (Up previous w x → ⊥) → Up (set previous w (suc u)) a x
  up-stays (here e) f = here e
  up-stays (further-up {x} {y} e up) f = further-up (old x (λ q. f (here q)) ∙ e) (up-stays up (λ r. f (further-up e r)))

  -- what was before x is still, if it is before u too
  up-still : {a x : ℕ} → Up (set previous w (suc u)) a u → Up previous a x → Up (set previous w (suc u)) a x
  up-still r (here e) = here e
  up-still r (further-up {x} e up) = let ih = up-still r up in ask_same x w (λ q. further-up (new q) r) (λ n. further-up (old x n ∙ e) ih)

  -- what is before w is w or before u
  up-new : {a x : ℕ} → x ≡ w → a ≢ x → Up (set previous w (suc u)) a x → Up (set previous w (suc u)) a u
  up-new q n (here e) = absurd (n (sym e))
  up-new q n (further-up {x} {y} e up) =
      let f : y ≡ u = omega (arith, new q) in
      rw f at up

module _ {G : Graph} {degree dearest : ℕ} (S : Sound G degree dearest) {closed ages : List ℕ} {u d : ℕ} {m : Move} {ms : List Move} {s : State}
    (M : Mid G closed ages u d (m ∷ ms) s) (T : HangingMid G u closed s.known s.previous) (gain : Gain (suc (d + m.cost)) (known_at s m.to)) where
  -- w is not before u: no cell before u is dearer than u
  free : Up s.previous m.to u → ⊥
  free up =
      let f : (0 < known_at s m.to) × (known_at s m.to ≤ known_at s u) = up-falls M.base.linked up (omega (arith, M.now)) in
      no_gain gain f.0 (omega (arith, f, M.now))

  w_in : m.to < length s.previous
  w_in = omega (arith, S.inside u m (due-lawful M), M.base.linked.previous-long)

  same_key : (v : ℕ) → v ≢ m.to → key G (offered s d m) v ≡ key G s.known v
  same_key v n = ap (λ (k : ℕ). k + G.estimate v) (same M S gain v n)

  same-mark : (v : ℕ) → v ≢ m.to → get_or (set closed m.to 0) v 0 ≡ get_or closed v 0
  same-mark v n = get_or-set_other closed m.to v 0 0 n

  was_open : (v : ℕ) → v ≢ m.to → Open (set closed m.to 0) (offered s d m) v → Open closed s.known v
  was_open v n O = record {
    is_known = rw (same M S gain v n) at O.is_known;
    unmarked = sym (same-mark v n) ∙ O.unmarked;
  }

  -- what is before u is closed still
  above-closed : (v : ℕ) → Up (set s.previous m.to (suc u)) v u → 0 < get_or (set closed m.to 0) v 0
  above-closed v up =
      let r = up_same s.previous m.to u w_in free up in
      omega (arith, T.above-closed v r, same-mark v (λ e. free (rw e at r)))

  -- w's new key is below that of an open cell behind it
  w_nearer : (x : ℕ) → Open closed s.known x → x ≢ m.to → Up s.previous m.to x → key G (offered s d m) m.to < key G s.known x
  w_nearer x O n up = go gain (eq-zero-or-pos (get_or closed m.to 0))
    where
      w_known : 0 < known_at s m.to
      w_known = (up-falls M.base.linked up O.is_known).0

      go : Gain (suc (d + m.cost)) (known_at s m.to) → (get_or closed m.to 0 ≡ 0) ⊎ (0 < get_or closed m.to 0)
          → key G (offered s d m) m.to < key G s.known x
      go (inl z) c = absurd (omega (arith, w_known))
      go (inr l) (inl o) = omega (arith, now-known M S gain, T.nearer m.to x (record { is_known = w_known; unmarked = o }) O (λ e. n (sym e)) up)
      go (inr l) (inr c) = omega (arith, now-known M S gain, T.inner m.to x c free O up)

  nearer : Nearer G (set closed m.to 0) (offered s d m) (set s.previous m.to (suc u))
  nearer a x O P n up = go (ℕ_discrete x m.to) (ℕ_discrete a m.to) (up_split s.previous m.to u w_in free up)
    where
      shut : Up (set s.previous m.to (suc u)) a u → ⊥
      shut r = omega (arith, above-closed a r, O.unmarked)

      go : Dec (x ≡ m.to) → Dec (a ≡ m.to) → Up s.previous a x ⊎ (Up s.previous m.to x × Up (set s.previous m.to (suc u)) a u)
          → key G (offered s d m) a < key G (offered s d m) x
      go (yes q) b r = absurd (shut (up-new s.previous m.to u w_in free q n up))
      go (no q) (yes b) (inl r) = omega (arith, w_nearer x (was_open x q P) q (rw b at r), same_key x q, ap (key G (offered s d m)) b)
      go (no q) (no b) (inl r) = omega (arith, T.nearer a x (was_open a b O) (was_open x q P) n r, same_key a b, same_key x q)
      go (no q) (yes b) (inr r) = absurd (shut r.1)
      go (no q) (no b) (inr r) = absurd (shut r.1)

  push-tried : HangingMid G u (set closed m.to 0) (offered s d m) (set s.previous m.to (suc u))
  push-tried = record {
    above-closed = above-closed;
    nearer = nearer;
    inner = λ v x c f O up. inner v x (still-closed M S gain v c) f O up;
    outer = outer;
  }
    where
      inner : (v x : ℕ) → (v ≢ m.to) × (0 < get_or closed v 0) → (Up (set s.previous m.to (suc u)) v u → ⊥)
          → Open (set closed m.to 0) (offered s d m) x → Up (set s.previous m.to (suc u)) v x
          → key G (offered s d m) v ≤ key G (offered s d m) x
      inner v x c f O up =
          ask_same x m.to
          (λ q. absurd (f (up-new s.previous m.to u w_in free q (λ e. c.0 (e ∙ q)) up)))
          (λ q. go q (up_split s.previous m.to u w_in free up))
        where
          go : x ≢ m.to → Up s.previous v x ⊎ (Up s.previous m.to x × Up (set s.previous m.to (suc u)) v u)
              → key G (offered s d m) v ≤ key G (offered s d m) x
          go q (inl r) = omega (
            arith,
            T.inner v x c.1 (λ p. f (up-stays s.previous m.to u w_in free p free)) (was_open x q O) r,
            same_key v c.0,
            same_key x q,
          )
          go q (inr r) = absurd (f r.1)

      outer : (v y : ℕ) → Up (set s.previous m.to (suc u)) v u → Open (set closed m.to 0) (offered s d m) y
          → (Up (set s.previous m.to (suc u)) v y → ⊥) → key G (offered s d m) v ≤ key G (offered s d m) y
      outer v y up O f =
          let r = up_same s.previous m.to u w_in free up in
          ask_same y m.to
          (λ q. absurd (f (further-up (new s.previous m.to u w_in free q) up)))
          (λ q. omega (
            arith,
            T.outer v y r (was_open y q O) (λ p. f (up-still s.previous m.to u w_in free up p)),
            same_key v (still-closed M S gain v (above-closed v up)).0,
            same_key y q,
          ))

-- ---- between two takings again

tried-tree : {G : Graph} {u : ℕ} {closed known previous : List ℕ} → HangingMid G u closed known previous → Hanging G closed known previous
tried-tree {G} {u} {closed} {known} {previous} T = record {
  nearer = T.nearer;
  between = λ v x y c O P up f.
      ask_less (key G known y) (key G known v)
      (λ h. let off : Up previous v u → ⊥ = λ r. omega (arith, T.outer v y r P f) in omega (arith, T.inner v x c off O up))
      (λ h. omega arith);
}

tree : {G : Graph} {degree dearest : ℕ} → Sound G degree dearest → Invariant G
unfolding push first_state
tree {G} S = record {
  Between = λ closed pushed s. Hanging G closed s.known s.previous;
  During = λ closed u d due pushed s. HangingMid G u closed s.known s.previous;
  Full = λ pushed. Unit {0};
  begins = record {
    nearer = λ a x O P n up. absurd (n ((start-alone S a O.is_known).0 ∙ sym (start-alone S x P.is_known).0));
    between = λ v x y c O P up f. absurd (omega (arith, zeros G.size v));
  };
  again = λ B T k c. T;
  anew = λ B T k o a. anew-tried B T k o;
  skips = λ M T. T;
  adds = λ M T gain. push-tried S M T gain;
  stops = λ M T gain f. tt;
  ends = λ M T. tried-tree T;
}

-- ---- the goal is taken

pub taken-lawful : {G : Graph} {degree dearest : ℕ} → Sound G degree dearest → {l : List ℕ} {s : State} {t : Taken} → Reached G l s → Taking s.waiting t
    → t.next.cell ≡ G.goal → Lawful G (trace G.size s.previous G.goal []) (cost_of s G.goal)
unfolding tree
taken-lawful {G} S {l} {s} {t} R k e =
    goal-trail H.base.linked (λ a up n m i. loose a up n m i (eq-zero-or-pos (get_or H.closed a 0))) S.goal_in goal_open.is_known
  where
    H : Holds (tree S) l s
    H = invariant_holds S (tree S) R

    goal_open : Open H.closed s.known G.goal
    goal_open = record { is_known = rw e at (H.base.fair t.next k.from).is_known; unmarked = H.base.goal_open }

    unmarked : get_or H.closed t.next.cell 0 ≡ 0
    unmarked = ap (λ (n : ℕ). get_or H.closed n 0) e ∙ H.base.goal_open

    -- an open cell before the goal would have been taken
    loose : (a : ℕ) → Up s.previous a G.goal → a ≢ G.goal → (m : Move) → In m (G.moves a) → (get_or H.closed a 0 ≡ 0) ⊎ (0 < get_or H.closed a 0)
        → known_at s m.to ≤ known_at s a + m.cost
    loose a up n m i (inl o) =
        let O : Open H.closed s.known a = record { is_known = (up-falls H.base.linked up goal_open.is_known).0; unmarked = o } in
        absurd (omega (
          arith,
          least-key H.base H.besides k unmarked a O,
          H.besides.nearer a G.goal O goal_open n up,
          ap (key G s.known) e,
        ))
    loose a up n m i (inr c) = (all-loose H.base a m c i).cheap
