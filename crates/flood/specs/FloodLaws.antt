-- Laws of the flood: a cell is met, the moves of a cell, one visit after another; what it marks.
use Rattle.std.specs.Prelude.{◌≡◌, refl, ◌⊎◌, ◌↔◌, true, false, List, [], ◌∷◌, ◌++◌, map, ℕ, zero, suc, ◌+◌, ◌≤◌, ◌<◌, eqb, ltb, length, get_or, set, replicate, Option, Some, None}
use Rattle.std.proofs.Common.{sym, ap, ◌∙◌, inl, inr, ⊎_elim, le_of_suc-le-suc, not-suc-le-zero, add-one, arith, length-set, get_or-set_same, get_or-set_other, eqb-true, eq-eqb}
use Rattle.std.proofs.lemmas.List.{length-replicate}
use Rattle.basics.specs.Tests.{ask, ask_same, never}
use Rattle.basics.specs.Lists.{In, joined}
use Rattle.basics.specs.Counts.{bit, times-most}
use Rattle.basics.specs.Zeros.{zeros}
use Rattle.room.specs.declared.Room.{Room}
use Rattle.room.specs.declared.Move.{Move}
use Rattle.room.specs.Room.{volume, moves, move_at, by, neighbour}
use Rattle.room.specs.MoveLaws.{leads}
use Rattle.best_first.specs.ListsAfterSet.{nonzeros-none, nonzeros-new, in_reach, AfterStore, hit, miss, after}
use Rattle.walk.specs.Chains.{Chained}
use Rattle.walk.specs.ChainLaws.{chained-here, chained-step, chained-on, chain-closed}
use Rattle.walk.proofs.WalkLaws.{reached-exactly}
use Rattle.flood.specs.Walls.{free_at, free_by, reached_by, marks_by}
use Rattle.flood.specs.Flooding.{Spot, Held, Met, OpenAt, OpenBy, Flooding, Flooded}
use Rattle.flood.specs.TableLaws.{is-tabled}

-- ---- a cell is met

spot_more : {line : List ℕ} {count v : ℕ} (x : ℕ) → Spot line count v → Spot (set line count x) (count + 1) v
spot_more {line} {count} x S = record {
  place = S.place;
  within = omega (arith, S.within);
  is = get_or-set_other line count S.place x 0 (λ q. omega (arith, S.within, q)) ∙ S.is;
}

module _ {marks line : List ℕ} {count : ℕ} (H : Held marks line count) where
  pub held-most : count ≤ length marks
  held-most = omega (arith, H.counted, times-most (ltb 0) marks)

  pub held_in : (i : ℕ) → i < count → get_or line i 0 < length marks
  held_in i h = in_reach marks (get_or line i 0) (H.marked i h)

  pub met-nothing : (P : ℕ → Type 0) → ((v : ℕ) → P v → 0 < get_or marks v 0) → Met P marks line count marks line count
  met-nothing P f = record { held = H; long = refl; on = omega arith; same = λ i h. refl; kept = λ v p. p; all = f; only = λ v p. inl p }

  module _ (v : ℕ) (v-in : v < length marks) (new : get_or marks v 0 ≡ 0) where
    pub line-fits : count < length line
    line-fits = omega (arith, H.counted, H.line-long, nonzeros-new marks v 0 v-in new, times-most (ltb 0) (set marks v 1), length-set marks v 1)

    pub met-now : (P : ℕ → Type 0) → P v → ((w : ℕ) → P w → w ≡ v) → Met P marks line count (set marks v 1) (set line count v) (count + 1)
    met-now P p one = record {
      held = record {
        line-long = length-set line count v ∙ H.line-long ∙ sym (length-set marks v 1);
        counted = nonzeros-new marks v 0 v-in new ∙ ap suc H.counted ∙ sym (add-one count);
        small = λ w. small w (after marks v 1 w v-in);
        lined = λ w p. lined w p (after marks v 1 w v-in);
        marked = λ i h. marked i h;
      };
      long = length-set marks v 1;
      on = omega arith;
      same = λ i h. get_or-set_other line count i v 0 (λ q. omega (arith, q));
      kept = λ w p. kept w p (after marks v 1 w v-in);
      all = λ w p. all w (one w p) (after marks v 1 w v-in);
      only = λ w p. only w p (after marks v 1 w v-in);
    }
      where
        small : (w : ℕ) → AfterStore marks v 1 w → get_or (set marks v 1) w 0 ≤ 1
        small w (hit e q) = omega (arith, q)
        small w (miss d q) = omega (arith, q, H.small w)

        last : Spot (set line count v) (count + 1) v
        last = record { place = count; within = omega arith; is = get_or-set_same line count v 0 line-fits }

        lined : (w : ℕ) → 0 < get_or (set marks v 1) w 0 → AfterStore marks v 1 w → Spot (set line count v) (count + 1) w
        lined w p (hit e q) = rw e last
        lined w p (miss d q) = spot_more v (H.lined w (omega (arith, p, q)))

        kept : (w : ℕ) → 0 < get_or marks w 0 → AfterStore marks v 1 w → 0 < get_or (set marks v 1) w 0
        kept w p (hit e q) = omega (arith, q)
        kept w p (miss d q) = omega (arith, q, p)

        marked : (i : ℕ) → i < count + 1 → 0 < get_or (set marks v 1) (get_or (set line count v) i 0) 0
        marked i h =
            ask_same i count
            (λ q. rw (q, get_or-set_same line count v 0 line-fits, get_or-set_same marks v 1 0 v-in) (omega arith))
            (λ d. rw (get_or-set_other line count i v 0 d) (kept (get_or line i 0) (H.marked i (omega (arith, d))) (after marks v 1 (get_or line i 0) v-in)))

        all : (w : ℕ) → w ≡ v → AfterStore marks v 1 w → 0 < get_or (set marks v 1) w 0
        all w e (hit f q) = omega (arith, q)
        all w e (miss d q) = absurd (d e)

        only : (w : ℕ) → 0 < get_or (set marks v 1) w 0 → AfterStore marks v 1 w → (0 < get_or marks w 0) ⊎ P w
        only w k (hit e q) = inr (rw e p)
        only w k (miss d q) = inl (omega (arith, q, k))

-- ---- the same for a place

met-same : {P Q : ℕ → Type 0} {marks line : List ℕ} {count : ℕ} {marks' line' : List ℕ} {count' : ℕ} → ((v : ℕ) → P v ↔ Q v)
    → Met P marks line count marks' line' count' → Met Q marks line count marks' line' count'
met-same {P} {Q} {marks} s M = record {
  held = M.held;
  long = M.long;
  on = M.on;
  same = M.same;
  kept = M.kept;
  all = λ v q. M.all v ((s v).1 q);
  only = λ v p. ⊎_elim {C = (0 < get_or marks v 0) ⊎ Q v} (λ q. inl q) (λ q. inr ((s v).0 q)) (M.only v p);
}

module _ {obstacle : ℕ → ℕ} {place : Option ℕ} {marks line : List ℕ} {count : ℕ} where
  pub place_none : Held marks line count → place ≡ None → Met (OpenAt obstacle place) marks line count marks line count
  place_none H e = met-nothing H (OpenAt obstacle place) (λ v O. never (cc (O.is, e)))

  pub place-shut : Held marks line count → (cell : ℕ) → place ≡ Some cell → (obstacle cell ≡ 0 → ⊥) → Met (OpenAt obstacle place) marks line count marks line count
  place-shut H cell e n = met-nothing H (OpenAt obstacle place) (λ v O. let q : cell ≡ v = cc (O.is, e) in absurd (n (rw q O.free)))

  pub place-met : (cell : ℕ) → place ≡ Some cell → obstacle cell ≡ 0 → {marks' line' : List ℕ} {count' : ℕ}
      → Met (λ (w : ℕ). w ≡ cell) marks line count marks' line' count' → Met (OpenAt obstacle place) marks line count marks' line' count'
  place-met cell e z M = met-same (λ v. ((λ q. record { is = rw q e; free = rw q z }), (λ O. cc (O.is, e)))) M

-- ---- the moves of a cell, one after another

module _ {R : Room} {obstacle : ℕ → ℕ} {u : ℕ} {marks₀ line₀ : List ℕ} {count₀ : ℕ} where
  pub visiting_none : Held marks₀ line₀ count₀ → Met (OpenBy R obstacle u 0) marks₀ line₀ count₀ marks₀ line₀ count₀
  visiting_none H = met-nothing H (OpenBy R obstacle u 0) (λ v O. absurd (not-suc-le-zero O.below))

  pub visiting_next : {marks line : List ℕ} {count k : ℕ} → Met (OpenBy R obstacle u k) marks₀ line₀ count₀ marks line count
      → {marks' line' : List ℕ} {count' : ℕ} → Met (OpenAt obstacle (neighbour R u (move_at k))) marks line count marks' line' count'
      → Met (OpenBy R obstacle u (k + 1)) marks₀ line₀ count₀ marks' line' count'
  visiting_next {marks} {line} {count} {k} M {marks'} {line'} {count'} N = record {
    held = N.held;
    long = N.long ∙ M.long;
    on = omega (arith, M.on, N.on);
    same = λ i h. N.same i (omega (arith, M.on)) ∙ M.same i h;
    kept = λ v p. N.kept v (M.kept v p);
    all = all;
    only = λ v p. only v (N.only v p);
  }
    where
      all : (v : ℕ) → OpenBy R obstacle u (k + 1) v → 0 < get_or marks' v 0
      all v O =
          ask_same O.by k
          (λ e. N.all v (rw e at O.there))
          (λ d. N.kept v (M.all v (record { by = O.by; below = omega (arith, O.below, d); there = O.there })))

      only : (v : ℕ) → (0 < get_or marks v 0) ⊎ OpenAt obstacle (neighbour R u (move_at k)) v → (0 < get_or marks₀ v 0) ⊎ OpenBy R obstacle u (k + 1) v
      only v (inr O) = inr (record { by = k; below = omega arith; there = O })
      only v (inl p) = ⊎_elim {C = (0 < get_or marks₀ v 0) ⊎ OpenBy R obstacle u (k + 1) v} (λ q. inl q) (λ O. inr (record { by = O.by; below = omega (arith, O.below); there = O.there })) (M.only v p)

-- ---- the cells of `free_by` are those that open moves lead to

in_left : (w : ℕ) (l m : List ℕ) → In w l → In w (l ++ m)
in_left w [] m i = absurd i
in_left w (x ∷ l) m (inl e) = inl e
in_left w (x ∷ l) m (inr i) = inr (in_left w l m i)

in_right : (w : ℕ) (l m : List ℕ) → In w m → In w (l ++ m)
in_right w [] m i = i
in_right w (x ∷ l) m i = inr (in_right w l m i)

in_append : (w : ℕ) (l m : List ℕ) → In w (l ++ m) → In w l ⊎ In w m
in_append w [] m i = inr i
in_append w (x ∷ l) m (inl e) = inl (inl e)
in_append w (x ∷ l) m (inr i) = ⊎_elim {C = In w (x ∷ l) ⊎ In w m} (λ j. inl (inr j)) (λ j. inr j) (in_append w l m i)

module _ (obstacle : ℕ → ℕ) (w : ℕ) where
  free_open : (place : Option ℕ) → In w (free_at obstacle place) → OpenAt obstacle place w
  free_open None i = absurd i
  free_open (Some v) i = ask (eqb (obstacle v) 0) (λ t. yes_free t (rw t at i)) (λ f. absurd (rw f at i))
    where
      yes_free : eqb (obstacle v) 0 ≡ true → In w (v ∷ []) → OpenAt obstacle (Some v) w
      yes_free t (inl e) = record { is = rw e; free = rw e (eqb-true (obstacle v) 0 t) }
      yes_free t (inr i) = absurd i

  open_free : (place : Option ℕ) → OpenAt obstacle place w → In w (free_at obstacle place)
  open_free place O = rw (O.is, eq-eqb (obstacle w) 0 O.free) (inl refl)

module _ (R : Room) (obstacle : ℕ → ℕ) (u w : ℕ) where
  abbrev free : Move → List ℕ
  free m = free_at obstacle (neighbour R u m)

  joined_open : (ms : List Move) → In w (joined (map free ms)) → (k : ℕ) × (k < length ms) × OpenAt obstacle (neighbour R u (get_or ms k (by 0 0 0))) w
  joined_open [] i = absurd i
  joined_open (m ∷ ms) i =
      ⊎_elim {C = (k : ℕ) × (k < length (m ∷ ms)) × OpenAt obstacle (neighbour R u (get_or (m ∷ ms) k (by 0 0 0))) w}
      (λ j. (0, omega arith, free_open obstacle w (neighbour R u m) j))
      (λ j. let r = joined_open ms j in (suc r.0, omega (arith, r.1), r.2))
      (in_append w (free m) (joined (map free ms)) i)

  open_joined : (ms : List Move) (k : ℕ) → k < length ms → OpenAt obstacle (neighbour R u (get_or ms k (by 0 0 0))) w → In w (joined (map free ms))
  open_joined [] k h O = absurd (not-suc-le-zero h)
  open_joined (m ∷ ms) zero h O = in_left w (free m) (joined (map free ms)) (open_free obstacle w (neighbour R u m) O)
  open_joined (m ∷ ms) (suc k) h O = in_right w (free m) (joined (map free ms)) (open_joined ms k (le_of_suc-le-suc h) O)

  pub free-by : In w (free_by R obstacle u) → OpenBy R obstacle u 12 w
  unfolding free_by moves
  free-by i = let r = joined_open moves i in record { by = r.0; below = r.1; there = r.2 }

  pub by-free : OpenBy R obstacle u 12 w → In w (free_by R obstacle u)
  unfolding free_by moves
  by-free O = open_joined moves O.by O.below O.there

  pub free_in : In w (free_by R obstacle u) → w < volume R
  free_in i = let O = free-by i in (leads R u (move_at O.by) w O.there.is).inside

-- ---- one visit after another

module _ (R : Room) (obstacle : ℕ → ℕ) (start : ℕ) where
  abbrev next : ℕ → List ℕ
  next = free_by R obstacle

  pub flooding_first : (n : ℕ) (line : List ℕ) → start < n → length line ≡ n → Flooding next n start (set (replicate n 0) start 1) (set line 0 start) 0 1
  flooding_first n line h e = record {
    held = record {
      line-long = length-set line 0 start ∙ e ∙ sym long;
      counted = nonzeros-new none start 0 inside (zeros n start) ∙ ap suc (nonzeros-none n);
      small = λ v. small v (after none start 1 v inside);
      lined = λ v p. rw (only v p (after none start 1 v inside)) (record { place = 0; within = omega arith; is = first });
      marked = λ i k. let z : i ≡ 0 = omega arith in rw (z, first, get_or-set_same none start 1 0 inside) (omega arith);
    };
    long = long;
    within = omega arith;
    root = rw (get_or-set_same none start 1 0 inside) (omega arith);
    chained = λ v p. rw (only v p (after none start 1 v inside)) (chained-here next start);
    closed = λ i k. absurd (not-suc-le-zero k);
  }
    where
      none : List ℕ
      none = replicate n 0

      long : length (set none start 1) ≡ n
      long = length-set none start 1 ∙ length-replicate {A = ℕ} n 0

      inside : start < length none
      inside = omega (arith, length-replicate {A = ℕ} n 0)

      first : get_or (set line 0 start) 0 0 ≡ start
      first = get_or-set_same line 0 start 0 (omega arith)

      small : (v : ℕ) → AfterStore none start 1 v → get_or (set none start 1) v 0 ≤ 1
      small v (hit f q) = omega (arith, q)
      small v (miss d q) = omega (arith, q, zeros n v)

      only : (v : ℕ) → 0 < get_or (set none start 1) v 0 → AfterStore none start 1 v → v ≡ start
      only v p (hit f q) = f
      only v p (miss d q) = absurd (omega (arith, q, zeros n v))

  module _ {n : ℕ} {marks line : List ℕ} {head count : ℕ} (F : Flooding next n start marks line head count) where
    pub flooding_most : count ≤ n
    flooding_most = omega (arith, held-most F.held, F.long)

    pub flooding_in : head < count → (cell : ℕ) → cell ≡ get_or line head 0 → cell < n
    flooding_in h cell e = omega (arith, e, held_in F.held head h, F.long)

    pub flooding_next : head < count → (cell : ℕ) → cell ≡ get_or line head 0 → {marks' line' : List ℕ} {count' : ℕ}
        → Met (OpenBy R obstacle cell 12) marks line count marks' line' count' → Flooding next n start marks' line' (head + 1) count'
    flooding_next h cell e {marks'} {line'} {count'} M = record {
      held = M.held;
      long = M.long ∙ F.long;
      within = omega (arith, M.on);
      root = M.kept start F.root;
      chained = λ v p. chained v (M.only v p);
      closed = closed;
    }
      where
        chained : (v : ℕ) → (0 < get_or marks v 0) ⊎ OpenBy R obstacle cell 12 v → Chained next start v
        chained v (inl p) = F.chained v p
        chained v (inr O) =
            chained-on next start cell v (F.chained cell (rw e (F.held.marked head h))) (chained-step next cell v (by-free R obstacle cell v O))

        closed : (i : ℕ) → i < head + 1 → (v : ℕ) → In v (next (get_or line' i 0)) → 0 < get_or marks' v 0
        closed i k v j =
            let old : In v (next (get_or line i 0)) = rw (M.same i (omega arith)) at j in
            ask_same i head
            (λ q. let here : get_or line i 0 ≡ cell = ap (λ (x : ℕ). get_or line x 0) q ∙ sym e in M.all v (free-by R obstacle cell v (rw here at old)))
            (λ d. M.kept v (F.closed i (omega (arith, d)) v old))

    pub flooding_all : count ≤ head → Flooded next n start marks
    flooding_all h = record { long = F.long; small = F.held.small; exactly = λ v. (F.chained v, back v) }
      where
        step : (u v : ℕ) → 0 < get_or marks u 0 → In v (next u) → 0 < get_or marks v 0
        step u v p i = let S = F.held.lined u p in F.closed S.place (omega (arith, S.within)) v (rw S.is i)

        back : (v : ℕ) → Chained next start v → 0 < get_or marks v 0
        back v C = chain-closed next (λ x. 0 < get_or marks x 0) step start C.cells v C.chain F.root

-- ---- which cells are reached

module _ (R : Room) (obstacle : ℕ → ℕ) (start : ℕ) (start_in : start < volume R) where
  -- exactly those to which free moves lead
  pub reached-free : (v : ℕ) → (reached_by R obstacle start v ≡ true) ↔ Chained (free_by R obstacle) start v
  unfolding reached_by
  reached-free = reached-exactly (free_by R obstacle) (volume R) start (λ u h v i. free_in R obstacle u v i) start_in

  -- the flood marks them
  module _ {marks : List ℕ} (F : Flooded (free_by R obstacle) (volume R) start marks) where
    mark-is : (v : ℕ) → get_or marks v 0 ≡ bit (reached_by R obstacle start v)
    mark-is v =
        ask (reached_by R obstacle start v)
        (λ t. rw t (omega (arith, F.small v, (F.exactly v).1 ((reached-free v).0 t))))
        (λ f. rw f (none f (get_or marks v 0) refl))
      where
        none : reached_by R obstacle start v ≡ false → (n : ℕ) → get_or marks v 0 ≡ n → n ≡ 0
        none f zero e = refl
        none f (suc n) e = let t : reached_by R obstacle start v ≡ true = (reached-free v).1 ((F.exactly v).0 (omega (arith, e))) in never (cc (f, t))

    pub flood_marks : marks ≡ marks_by R obstacle start
    flood_marks = is-tabled (volume R) (λ v. bit (reached_by R obstacle start v)) marks F.long (λ v h. mark-is v)
