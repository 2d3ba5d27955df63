-- At any costs: each known cell waits at its known cost, or is closed: it has been expanded at that cost, so none of its moves offers a lower one.
use Rattle.std.specs.Prelude.{◌≡◌, ◌⊎◌, ◌≢◌, ℕ, suc, ◌+◌, ◌≤◌, ◌<◌, length, set, replicate}
use Rattle.std.proofs.Math.Path.{refl}
use Rattle.std.proofs.Common.{sym, ap, ◌∙◌, inl, inr, arith, get_or-set_same}
use mathlib.Core.List.{List, [], ◌∷◌}
use Rattle.std.proofs.Math.Nat.{suc-pred-eq_of_pos}
use Rattle.std.proofs.Math.ListN.{get_or, length-set}
use Rattle.std.proofs.lemmas.List.{length-replicate}
use Rattle.std.proofs.Math.Seq.{get_or-set_other}
use Rattle.basics.specs.Lists.{In}
use Rattle.basics.specs.Zeros.{zeros}
use Rattle.best_first.specs.Search.{Graph, Move, Entry, State, Taken, on, push, one_more_expanded, first_state, expand}
use Rattle.best_first.specs.Ways.{Sound}
use Rattle.best_first.specs.Statements.{Taking, known_at, cost_of, outcome, entered, entered_by}
use Rattle.best_first.specs.ListsAfterSet.{AfterStore, hit, miss, after, in_reach}
use Rattle.best_first.proofs.Equations.{no_cheaper, expand-none, expand_skip, Gain, offered}
use Rattle.best_first.proofs.Predecessors.{Linked, lowered, to_in, not_itself, push-linked, start-alone, first-linked}

-- an entry of v's known cost waits
pub record Waits (G : Graph) (known : List ℕ) (waiting : List Entry) (v : ℕ) : Type 0 where
  pub entry : Entry
  pub there : In entry waiting
  pub at : entry.cell ≡ v
  pub fresh : suc entry.key ≡ get_or known v 0 + G.estimate v

-- an entry's cell is known, at no more than the entry's cost
pub record Fair (G : Graph) (known : List ℕ) (e : Entry) : Type 0 where
  pub is_known : 0 < get_or known e.cell 0
  pub high : get_or known e.cell 0 + G.estimate e.cell ≤ suc e.key

-- the move m of w offers no lower cost
pub record Loose (known : List ℕ) (w : ℕ) (m : Move) : Type 0 where
  pub is_known : 0 < get_or known m.to 0
  pub cheap : get_or known m.to 0 ≤ get_or known w 0 + m.cost

-- `closed` marks the closed cells; the moves `due` of u, which is closed, are still to be tried
pub record Base (G : Graph) (closed ages : List ℕ) (u : ℕ) (due : List Move) (s : State) : Type 0 where
  pub linked : Linked G ages s.known s.previous s.serial
  pub closed-long : length closed ≡ G.size
  pub goal_open : get_or closed G.goal 0 ≡ 0
  pub closed-known : (v : ℕ) → 0 < get_or closed v 0 → 0 < known_at s v
  pub loose : (w : ℕ) (m : Move) → 0 < get_or closed w 0 → In m (G.moves w) → Loose s.known w m ⊎ ((w ≡ u) × In m due)
  pub waits : (v : ℕ) → 0 < known_at s v → get_or closed v 0 ≡ 0 → Waits G s.known s.waiting v
  pub fair : (e : Entry) → In e s.waiting → Fair G s.known e

-- while the moves of u, whose cost is d, are tried
pub record Mid (G : Graph) (closed ages : List ℕ) (u d : ℕ) (due : List Move) (s : State) : Type 0 where
  pub base : Base G closed ages u due s
  pub now : known_at s u ≡ suc d
  pub done : 0 < get_or closed u 0
  pub lawful : (m : Move) → In m due → In m (G.moves u)

-- ---- a move that offers no lower cost

module _ {G : Graph} {closed ages : List ℕ} {u d : ℕ} {m : Move} {ms : List Move} {s : State} (N : Mid G closed ages u d (m ∷ ms) s) where
  B : Base G closed ages u (m ∷ ms) s
  B = N.base

  -- the move that is tried is one of u's
  pub due-lawful : In m (G.moves u)
  due-lawful = N.lawful m (inl refl)

  skip_base : (0 < known_at s m.to) × (known_at s m.to ≤ suc (d + m.cost)) → Base G closed ages u ms s
  skip_base f = record {
    linked = B.linked;
    closed-long = B.closed-long;
    goal_open = B.goal_open;
    closed-known = B.closed-known;
    loose = λ w n c i. loose w n (B.loose w n c i);
    waits = B.waits;
    fair = B.fair;
  }
    where
      loose : (w : ℕ) (n : Move) → Loose s.known w n ⊎ ((w ≡ u) × In n (m ∷ ms)) → Loose s.known w n ⊎ ((w ≡ u) × In n ms)
      loose w n (inl l) = inl l
      loose w n (inr (e, inl i)) = inl (rw (i, e) (record { is_known = f.0; cheap = omega (arith, N.now) }))
      loose w n (inr (e, inr i)) = inr (e, i)

  pub skip_mid : (0 < known_at s m.to) × (known_at s m.to ≤ suc (d + m.cost)) → Mid G closed ages u d ms s
  skip_mid f = record { base = skip_base f; now = N.now; done = N.done; lawful = λ n i. N.lawful n (inr i) }

  -- ---- a move that does: the cell entered is pushed, and is open

  module _ {degree dearest : ℕ} (S : Sound G degree dearest) (gain : Gain (suc (d + m.cost)) (known_at s m.to)) where
    u-known : 0 < known_at s u
    u-known = omega (arith, N.now)

    is_x : suc (d + m.cost) ≡ known_at s u + m.cost
    is_x = omega (arith, N.now)

    w_in : m.to < length s.known
    w_in = to_in S B.linked u m due-lawful u-known _ is_x gain

    u_not_w : u ≢ m.to
    u_not_w = not_itself S B.linked u m due-lawful u-known _ is_x gain

    mark : (v : ℕ) → AfterStore closed m.to 0 v
    mark v = after closed m.to 0 v (omega (arith, w_in, B.linked.known-long, B.closed-long))

    low : (v : ℕ) → 0 < known_at s v → (0 < get_or (offered s d m) v 0) × (get_or (offered s d m) v 0 ≤ known_at s v)
    low v = lowered s.known m.to (suc (d + m.cost)) v w_in (omega arith) gain

    -- a closed cell is another one, and keeps its cost
    pub still-closed : (v : ℕ) → 0 < get_or (set closed m.to 0) v 0 → (v ≢ m.to) × (0 < get_or closed v 0)
    still-closed v c = go (mark v)
      where
        go : AfterStore closed m.to 0 v → (v ≢ m.to) × (0 < get_or closed v 0)
        go (hit e q) = absurd (omega arith)
        go (miss n q) = (n, omega arith)

    pub same : (v : ℕ) → v ≢ m.to → get_or (offered s d m) v 0 ≡ known_at s v
    same v n = get_or-set_other s.known m.to v (suc (d + m.cost)) 0 n

    pub now-known : get_or (offered s d m) m.to 0 ≡ suc (d + m.cost)
    now-known = get_or-set_same s.known m.to (suc (d + m.cost)) 0 w_in

    push-base : Base G (set closed m.to 0) (set ages m.to (suc s.serial)) u ms (push G u m.to (d + m.cost) s)
    unfolding push
    push-base = record {
      linked = push-linked S B.linked u m due-lawful u-known (suc (d + m.cost)) is_x gain;
      closed-long = simp length-set B.closed-long;
      goal_open = goal_open (mark G.goal);
      closed-known = λ v c. let k = still-closed v c in (low v (B.closed-known v k.1)).0;
      loose = λ v n c i. let k = still-closed v c in loose v n k.0 (B.loose v n k.1 i);
      waits = λ v p o. waits v p o (after _ _ _ v w_in) (mark v);
      fair = fair;
    }
      where
        goal_open : AfterStore closed m.to 0 G.goal → get_or (set closed m.to 0) G.goal 0 ≡ 0
        goal_open (hit e q) = q
        goal_open (miss n q) = q ∙ B.goal_open

        loose : (v : ℕ) (n : Move) → v ≢ m.to → Loose s.known v n ⊎ ((v ≡ u) × In n (m ∷ ms))
            → Loose (offered s d m) v n ⊎ ((v ≡ u) × In n ms)
        loose v n k (inl l) = inl (record { is_known = (low n.to l.is_known).0; cheap = omega (arith, low n.to l.is_known, same v k, l.cheap) })
        loose v n k (inr (e, inl i)) = inl (rw (i, e) (record { is_known = omega (arith, now-known); cheap = omega (arith, now-known, same u u_not_w, N.now) }))
        loose v n k (inr (e, inr i)) = inr (e, i)

        old : (v : ℕ) → v ≢ m.to → Waits G s.known s.waiting v
            → Waits G (offered s d m) (push G u m.to (d + m.cost) s).waiting v
        old v n W = record { entry = W.entry; there = inr W.there; at = W.at; fresh = omega (arith, W.fresh, same v n) }

        waits : (v : ℕ) → 0 < get_or (offered s d m) v 0 → get_or (set closed m.to 0) v 0 ≡ 0
            → AfterStore s.known m.to (suc (d + m.cost)) v → AfterStore closed m.to 0 v
            → Waits G (offered s d m) (push G u m.to (d + m.cost) s).waiting v
        waits v p o (hit e q) k = record { entry = _; there = inl refl; at = sym e; fresh = omega (arith, ap G.estimate e) }
        waits v p o (miss n q) (hit e r) = absurd (n e)
        waits v p o (miss n q) (miss k r) = old v n (B.waits v (omega arith) (omega arith))

        fair : (e : Entry) → In e (push G u m.to (d + m.cost) s).waiting → Fair G (offered s d m) e
        fair e (inl p) = rw p (record { is_known = omega (arith, now-known); high = omega (arith, now-known) })
        fair e (inr i) = let f = B.fair e i in record { is_known = (low e.cell f.is_known).0; high = omega (arith, low e.cell f.is_known, f.high) }

    pub push-mid : Mid G (set closed m.to 0) (set ages m.to (suc s.serial)) u d ms (push G u m.to (d + m.cost) s)
    unfolding push
    push-mid = record {
      base = push-base;
      now = same u u_not_w ∙ N.now;
      done = omega (arith, get_or-set_other closed m.to u 0 0 u_not_w, N.done);
      lawful = λ n i. N.lawful n (inr i);
    }

-- ---- moves of u, whose cost is d, that offer no lower cost push nothing

module _ (G : Graph) (u d : ℕ) where
  expand-loose : (ms : List Move) (s : State) → known_at s u ≡ suc d → ((m : Move) → In m ms → Loose s.known u m) → expand G u d ms s ≡ on s
  expand-loose [] s e all = expand-none G u d s
  expand-loose (m ∷ ms) s e all =
      let l = all m (inl refl) in
      expand_skip G u d m ms s (no_cheaper _ _ l.is_known (omega (arith, l.cheap))) ∙ expand-loose ms s e (λ n i. all n (inr i))

  entered-loose : (ms : List Move) (l : List ℕ) (s : State) → known_at s u ≡ suc d → ((m : Move) → In m ms → Loose s.known u m) → entered G u d ms s l ≡ l
  unfolding entered
  entered-loose [] l s e all = refl
  entered-loose (m ∷ ms) l s e all =
      let k = all m (inl refl) in
      rw (no_cheaper (d + m.cost) (known_at s m.to) k.is_known (omega (arith, k.cheap)), entered) (entered-loose ms l s e (λ n i. all n (inr i)))

-- ---- a taking

-- nothing is due, so all moves of a closed cell were tried at its cost
pub all-loose : {G : Graph} {closed ages : List ℕ} {w : ℕ} {s : State} → Base G closed ages w [] s → (v : ℕ) (m : Move) → 0 < get_or closed v 0 → In m (G.moves v)
    → Loose s.known v m
all-loose B v m c i = elim (B.loose v m c i) [ inl l ↦ l | inr r ↦ absurd r.1 ]

module _ {G : Graph} {closed ages : List ℕ} {w : ℕ} {s : State} {t : Taken} (B : Base G closed ages w [] s) (k : Taking s.waiting t) where
  pub taken-known : known_at s t.next.cell ≡ suc (cost_of s t.next.cell)
  taken-known = sym (suc-pred-eq_of_pos (B.fair t.next k.from).is_known)

  -- the entry taken of an open cell is that of its known cost: an older one has a higher key
  pub taken-fresh : get_or closed t.next.cell 0 ≡ 0 → suc t.next.key ≡ known_at s t.next.cell + G.estimate t.next.cell
  taken-fresh o =
      let f = B.fair t.next k.from in
      let W = B.waits t.next.cell f.is_known o in
      omega (arith, k.low W.entry W.there, W.fresh, f.high)

  left-waits : (v : ℕ) → v ≢ t.next.cell → Waits G s.known s.waiting v → Waits G s.known t.left v
  left-waits v n W = go (k.rest W.entry W.there)
    where
      go : (W.entry ≡ t.next) ⊎ In W.entry t.left → Waits G s.known t.left v
      go (inl e) = absurd (n (sym W.at ∙ ap (λ (x : Entry). x.cell) e))
      go (inr i) = record { entry = W.entry; there = i; at = W.at; fresh = W.fresh }

  -- a closed cell: nothing is due, and nothing is pushed
  module _ (c : 0 < get_or closed t.next.cell 0) where
    pub again-base : Base G closed ages w [] (one_more_expanded s t.left)
    again-base = record {
      linked = B.linked;
      closed-long = B.closed-long;
      goal_open = B.goal_open;
      closed-known = B.closed-known;
      loose = B.loose;
      waits = λ v p o. left-waits v (λ e. omega (arith, ap (λ (n : ℕ). get_or closed n 0) e)) (B.waits v p o);
      fair = λ e i. B.fair e (k.left_in e i);
    }

    pub again-outcome : outcome G s t.next t.left ≡ on (one_more_expanded s t.left)
    again-outcome = expand-loose G _ _ (G.moves t.next.cell) (one_more_expanded s t.left) taken-known (λ m i. all-loose B t.next.cell m c i)

    pub again-entered : (l : List ℕ) → entered_by G s t.next t.left l ≡ l
    again-entered l = entered-loose G _ _ (G.moves t.next.cell) l (one_more_expanded s t.left) taken-known (λ m i. all-loose B t.next.cell m c i)

  pub taken_in : t.next.cell < G.size
  taken_in = omega (arith, in_reach s.known t.next.cell (B.fair t.next k.from).is_known, B.linked.known-long)

  pub mark-taken : (v : ℕ) → AfterStore closed t.next.cell 1 v
  mark-taken v = after closed t.next.cell 1 v (omega (arith, taken_in, B.closed-long))

  -- an open one: it is closed, and its moves are due
  module _ (away : t.next.cell ≢ G.goal) where
    anew-base : Base G (set closed t.next.cell 1) ages t.next.cell (G.moves t.next.cell) (one_more_expanded s t.left)
    anew-base = record {
      linked = B.linked;
      closed-long = simp length-set B.closed-long;
      goal_open = get_or-set_other closed t.next.cell G.goal 1 0 (λ e. away (sym e)) ∙ B.goal_open;
      closed-known = λ v c. closed-known v c (mark-taken v);
      loose = λ v m c i. loose v m c i (mark-taken v);
      waits = λ v p o. waits v p o (mark-taken v);
      fair = λ e i. B.fair e (k.left_in e i);
    }
      where
        closed-known : (v : ℕ) → 0 < get_or (set closed t.next.cell 1) v 0 → AfterStore closed t.next.cell 1 v → 0 < known_at s v
        closed-known v c (hit e q) = rw e (B.fair t.next k.from).is_known
        closed-known v c (miss n q) = B.closed-known v (omega arith)

        loose : (v : ℕ) (m : Move) → 0 < get_or (set closed t.next.cell 1) v 0 → In m (G.moves v) → AfterStore closed t.next.cell 1 v
            → Loose s.known v m ⊎ ((v ≡ t.next.cell) × In m (G.moves t.next.cell))
        loose v m c i (hit e q) = inr (e, rw e at i)
        loose v m c i (miss n q) = inl (all-loose B v m (omega arith) i)

        waits : (v : ℕ) → 0 < known_at s v → get_or (set closed t.next.cell 1) v 0 ≡ 0 → AfterStore closed t.next.cell 1 v → Waits G s.known t.left v
        waits v p o (hit e q) = absurd (omega arith)
        waits v p o (miss n q) = left-waits v n (B.waits v p (omega arith))

    pub anew-mid : Mid G (set closed t.next.cell 1) ages t.next.cell (cost_of s t.next.cell) (G.moves t.next.cell) (one_more_expanded s t.left)
    anew-mid = record { base = anew-base; now = taken-known; done = omega (arith, get_or-set_same closed t.next.cell 1 0 (omega (arith, taken_in, B.closed-long))); lawful = λ m i. i }

-- ---- the first state: the start waits

pub first-base : {G : Graph} {degree dearest : ℕ} → Sound G degree dearest → Base G (replicate G.size 0) (replicate G.size 0) 0 [] (first_state G)
unfolding first_state
first-base {G} S = record {
  linked = first-linked S;
  closed-long = simp length-replicate;
  goal_open = zeros G.size G.goal;
  closed-known = λ v c. absurd (omega (arith, zeros G.size v));
  loose = λ v m c i. absurd (omega (arith, zeros G.size v));
  waits = λ v p o. let a = start-alone S v p in record { entry = _; there = inl refl; at = sym a.0; fresh = omega (arith, a.1, ap G.estimate a.0) };
  fair = λ e. elim [ inl p ↦ rw p (record { is_known = omega (arith, (first-linked S).start-known); high = omega (arith, (first-linked S).start-known) }) | inr i ↦ absurd i ];
}
