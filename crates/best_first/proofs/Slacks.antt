-- With a consistent estimate, a sharper bound on the pushes: the slacks of the moves that push a cell fall strictly, so a cell is pushed no more often
-- than the slacks of the moves into it have values.
use Rattle.std.specs.Prelude.{◌≡◌, refl, ◌⊎◌, ◌≢◌, Bool, not, List, [], ◌∷◌, length, get_or, eqb}
use Rattle.std.proofs.Common.{sym, ◌∙◌, arith, mul-zero, mul-one, mul-add, mul-le-mul_left, eq-eqb, ne_eqb, ltb-true, lt-ltb, le-ltb}
use Rattle.std.proofs.Math.Path.{ap}
use Rattle.std.proofs.Math.Logic.{inl, inr}
use Prim.Native.Nat.{ℕ, zero, suc, ◌+◌, ◌-◌, ◌*◌, ◌≤◌, ◌<◌, zero-le}
use Rattle.std.proofs.Math.Dec.{ltb}
use Rattle.basics.specs.Tests.{ask, ask_same}
use Rattle.basics.specs.Lists.{In}
use Rattle.basics.specs.Counts.{bit, bit-small, times, times-most}
use Rattle.basics.specs.Sums.{sum_below, sum_le, sum_same, sum_more, single, single-most, Single, there, elsewhere, at-single}
use Rattle.best_first.specs.Search.{Graph, Move, Entry, State, push, one_more_expanded, best_first}
use Rattle.best_first.specs.Ways.{Sound, Consistent}
use Rattle.best_first.specs.Statements.{known_at, pushes, slack, Slacks, count_below, OnlyInto}
use Rattle.best_first.proofs.Equations.{Gain, offered}
use Rattle.best_first.proofs.Predecessors.{not_start}
use Rattle.best_first.proofs.Base.{Mid, due-lawful, same, now-known}
use Rattle.best_first.proofs.Paced.{Measure, pushes_hold, Frugal, frugal}

-- how many elements are less than n
abbrev lesser : ℕ → List ℕ → ℕ
lesser n l = times (λ x. ltb x n) l

lesser_le : (n m : ℕ) (l : List ℕ) → n ≤ m → lesser n l ≤ lesser m l
unfolding times
lesser_le n m [] h = zero-le
lesser_le n m (x ∷ l) h =
    ask (ltb x n) (λ t. rw (t, lt-ltb x m (omega (arith, ltb-true x n t))) (omega (arith, lesser_le n m l h))) (λ f. rw f (omega (arith, lesser_le n m l h)))

lesser_lt : (n m : ℕ) (l : List ℕ) → n < m → In n l → lesser n l < lesser m l
unfolding times
lesser_lt n m [] h i = absurd i
lesser_lt n m (x ∷ l) h (inl e) =
    rw (le-ltb x n (omega (arith, e)), lt-ltb x m (omega (arith, e))) (omega (arith, lesser_le n m l (omega arith)))
lesser_lt n m (x ∷ l) h (inr i) =
    ask (ltb x n) (λ t. rw (t, lt-ltb x m (omega (arith, ltb-true x n t))) (omega (arith, lesser_lt n m l h i))) (λ f. rw f (omega (arith, lesser_lt n m l h i)))

-- the place of a move's slack among the values
slot : {G : Graph} {k : ℕ} → Slacks G k → ℕ → Move → ℕ
slot {G} Z u m = lesser (slack G u m) (Z.values m.to)

module _ {G : Graph} {k : ℕ} (Z : Slacks G k) where
  slot-below : (u : ℕ) (m : Move) → In m (G.moves u) → slot Z u m < k
  unfolding slot
  slot-below u m i =
      omega (arith, lesser_lt (slack G u m) (suc (slack G u m)) (Z.values m.to) (omega arith) (Z.among u m i), times-most (λ x. ltb x (suc (slack G u m))) (Z.values m.to), Z.few m.to)

  slot-order : (u v : ℕ) (m n : Move) → In m (G.moves u) → m.to ≡ n.to → slack G u m < slack G v n → slot Z u m < slot Z v n
  unfolding slot
  slot-order u v m n i e h =
      omega (arith, lesser_lt (slack G u m) (slack G v n) (Z.values m.to) h (Z.among u m i), ap (λ (w : ℕ). lesser (slack G v n) (Z.values w)) e)

-- the last push into v: by `move` out of `by`, whose key was no more than the last key taken (`near`); the pushes into v so far and the slot of that
-- move make k at most (`used`)
record LastPush (G : Graph) (k : ℕ) (Z : Slacks G k) (top : ℕ) (pushed : List ℕ) (s : State) (v : ℕ) : Type 0 where
  by : ℕ
  move : Move
  lawful : In move (G.moves by)
  leads-to : move.to ≡ v
  is_known : 0 < known_at s v
  near : known_at s v + G.estimate by ≤ suc top + move.cost
  used : times (eqb v) pushed + slot Z by move ≤ k

pub record Slotted (G : Graph) (k : ℕ) (Z : Slacks G k) (top : ℕ) (pushed : List ℕ) (s : State) : Type 0 where
  last : (v : ℕ) → (times (eqb v) pushed ≡ 0) ⊎ LastPush G k Z top pushed s v
  start-never : times (eqb G.start) pushed ≡ 0
  whole : length pushed ≤ sum_below G.size (λ v. times (eqb v) pushed)

-- ---- one push

module _ {G : Graph} {degree dearest : ℕ} (S : Sound G degree dearest) (K : Consistent G) (k : ℕ) (Z : Slacks G k) {closed ages pushed : List ℕ} {u d top : ℕ} {m : Move} {ms : List Move}
    {s : State} (M : Mid G closed ages u d (m ∷ ms) s) (now : top ≡ d + G.estimate u) (A : Slotted G k Z top pushed s) (gain : Gain (suc (d + m.cost)) (known_at s m.to)) where
  here : times (eqb m.to) (m.to ∷ pushed) ≡ suc (times (eqb m.to) pushed)
  unfolding times
  here = rw (eq-eqb m.to m.to refl) (omega arith)

  away : (v : ℕ) → v ≢ m.to → times (eqb v) (m.to ∷ pushed) ≡ times (eqb v) pushed
  unfolding times
  away v n = rw (ne_eqb v m.to n) (omega arith)

  -- the slack is less than that of the push before
  lower : (L : LastPush G k Z top pushed s m.to) → slot Z u m < slot Z L.by L.move
  unfolding slack
  lower L = slot-order Z u L.by m L.move (due-lawful M) (sym L.leads-to) (elim gain [
    | inl z ↦ absurd (omega (arith, L.is_known))
    | inr l ↦ omega (arith, L.near, ap G.estimate L.leads-to, K.falls u m (due-lawful M), K.falls L.by L.move L.lawful)
  ])

  new : (times (eqb m.to) pushed ≡ 0) ⊎ LastPush G k Z top pushed s m.to → LastPush G k Z top (m.to ∷ pushed) (push G u m.to (d + m.cost) s) m.to
  unfolding push
  new c = record {
    by = u;
    move = m;
    lawful = due-lawful M;
    leads-to = refl;
    is_known = omega (arith, now-known M S gain);
    near = omega (arith, now-known M S gain);
    used = elim c [ inl z ↦ omega (arith, here, slot-below Z u m (due-lawful M)) | inr L ↦ omega (arith, here, lower L, L.used) ];
  }

  push_slotted : Slotted G k Z top (m.to ∷ pushed) (push G u m.to (d + m.cost) s)
  unfolding push
  push_slotted = record {
    last = λ v. ask_same v m.to (λ e. inr (rw e (new (rw e at (A.last v))))) (λ n. last v n (A.last v));
    start-never = away G.start (λ e. no_start (sym e)) ∙ A.start-never;
    whole = omega (arith, A.whole, sum_more G.size m.to 1 _ _ (S.inside u m (due-lawful M)) (λ v _. more v (at-single _ _ v)));
  }
    where
      no_start : m.to ≢ G.start
      no_start = not_start S M.base.linked u m (due-lawful M) (omega (arith, M.now)) (suc (d + m.cost)) (omega (arith, M.now)) gain

      more : (v : ℕ) → Single m.to 1 v → times (eqb v) pushed + single m.to 1 v ≤ times (eqb v) (m.to ∷ pushed)
      more v (there e q) = rw (← e) (omega (arith, here, single-most m.to 1 m.to))
      more v (elsewhere n q) = omega (arith, away v (λ e. n (sym e)))

      last : (v : ℕ) → v ≢ m.to → (times (eqb v) pushed ≡ 0) ⊎ LastPush G k Z top pushed s v
          → (times (eqb v) (m.to ∷ pushed) ≡ 0) ⊎ LastPush G k Z top (m.to ∷ pushed) (push G u m.to (d + m.cost) s) v
      last v n (inl z) = inl (away v n ∙ z)
      last v n (inr L) =
          let q : get_or (offered s d m) v 0 ≡ known_at s v = same M S gain v n in
          inr (record {
            by = L.by;
            move = L.move;
            lawful = L.lawful;
            leads-to = L.leads-to;
            is_known = omega (arith, L.is_known);
            near = omega (arith, L.near);
            used = omega (arith, L.used, away v n);
          })

-- ---- the pushes counted

sum_scaled : (k n : ℕ) (f : ℕ → ℕ) → sum_below n (λ x. k * f x) ≡ k * sum_below n f
unfolding sum_below
sum_scaled k zero f = rw mul-zero
sum_scaled k (suc n) f = rw (mul-add, sum_scaled k n f)

-- any graph's moves lead to the start or to another cell, of which there are fewer than cells
module _ (G : Graph) where
  abbrev another : ℕ → Bool
  another v = not (eqb v G.start)

  others : OnlyInto G another
  others = record { passes = λ u m i n. rw (ne_eqb m.to G.start n) }

  few-others : G.start < G.size → count_below G.size another ≤ G.size - 1
  few-others h = omega (
    arith,
    sum_more G.size G.start 1 (λ v. bit (another v)) (λ v. 1) h (λ v _. at v (at-single _ _ v)),
    sum_same G.size 1,
    mul-one G.size,
  )
    where
      at : (v : ℕ) → Single G.start 1 v → bit (another v) + single G.start 1 v ≤ 1
      at v (there e q) = rw (eq-eqb v G.start (sym e)) (omega arith)
      at v (elsewhere n q) = omega (arith, bit-small (another v))

-- a cell is pushed at most k times, and the start never
module _ {G : Graph} {k : ℕ} {Z : Slacks G k} {top : ℕ} {pushed : List ℕ} {s : State} (A : Slotted G k Z top pushed s) where
  pub slot-cell : (v : ℕ) → times (eqb v) pushed ≤ k
  slot-cell v = elim (A.last v) [ inl z ↦ omega arith | inr L ↦ omega (arith, L.used) ]

  -- only cells that the moves lead into are pushed
  slot-all : {test : ℕ → Bool} → OnlyInto G test → length pushed ≤ k * count_below G.size test
  slot-all {test} O =
      omega (arith, A.whole, sum_le G.size (λ v. times (eqb v) pushed) (λ v. k * bit (test v)) (λ v _. at v), sum_scaled k G.size (λ v. bit (test v)))
    where
      at : (v : ℕ) → times (eqb v) pushed ≤ k * bit (test v)
      at v = ask_same v G.start (λ e. rw e (omega (arith, A.start-never))) (λ n. elim (A.last v) [
        | inl z ↦ omega arith
        | inr L ↦ rw (rw L.leads-to at (O.passes L.by L.move L.lawful (rw L.leads-to n)), mul-one) (omega (arith, L.used))
      ])

-- ---- throughout

module _ {G : Graph} {k : ℕ} (Z : Slacks G k) where
  -- the last key taken rises
  later : {top next : ℕ} {pushed : List ℕ} {s : State} (left : List Entry) → top ≤ next → Slotted G k Z top pushed s → Slotted G k Z next pushed (one_more_expanded s left)
  later {top} {next} {pushed} {s} left h A = record { last = λ v. last v (A.last v); start-never = A.start-never; whole = A.whole }
    where
      last : (v : ℕ) → (times (eqb v) pushed ≡ 0) ⊎ LastPush G k Z top pushed s v → (times (eqb v) pushed ≡ 0) ⊎ LastPush G k Z next pushed (one_more_expanded s left) v
      last v (inl z) = inl z
      last v (inr L) = inr (record {
        by = L.by;
        move = L.move;
        lawful = L.lawful;
        leads-to = L.leads-to;
        is_known = L.is_known;
        near = omega (arith, L.near);
        used = L.used;
      })

  module _ {degree dearest : ℕ} (S : Sound G degree dearest) (K : Consistent G) where
    slotting : Measure G
    unfolding times
    slotting = record {
      Held = λ closed due top pushed s. Slotted G k Z top pushed s;
      begins = record { last = λ v. inl refl; start-never = refl; whole = zero-le };
      later = λ next left l A. later left l A;
      opens = λ B t o A. A;
      skips = λ A. A;
      adds = λ M A now o gain. push_slotted S K k Z M now A gain;
    }

    -- what the slots say of the cells pushed so far, they say of all that are pushed
    pub slots_hold : (P : List ℕ → Type 0) → ((x : ℕ) (l : List ℕ) → P (x ∷ l) → P l)
        → ((top : ℕ) (pushed : List ℕ) (s : State) → Slotted G k Z top pushed s → P pushed) → (limit : ℕ) → P (pushes G limit)
    unfolding slotting
    slots_hold P less bound = pushes_hold S K slotting P less (λ closed due top pushed s o A. bound top pushed s A)

    module _ {test : ℕ → Bool} (O : OnlyInto G test) where
      pub entered-frugal : (limit : ℕ) → Frugal G (k * count_below G.size test) (best_first G limit)
      unfolding slotting
      entered-frugal = frugal S K slotting (k * count_below G.size test) (λ closed due top pushed s o A. slot-all A O)

    pub slot-frugal : (limit : ℕ) → Frugal G (k * (G.size - 1)) (best_first G limit)
    slot-frugal limit =
        let F = entered-frugal (others G) limit in
        let few = mul-le-mul_left k (few-others G S.start_in) in
        record { expanded = omega (arith, F.expanded, few); spare = λ x e. omega (arith, F.spare x e, few) }
