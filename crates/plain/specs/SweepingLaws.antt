-- The sweeps over a room, as the code meets them: one move, the twelve moves of a cell, the cells one after another, sweep after sweep.
use Rattle.std.specs.Prelude.{◌≡◌, refl, ◌⊎◌, ◌≢◌, Bool, true, false, ℕ, suc, ◌+◌, ◌*◌, ◌≤◌, ◌<◌, eqb, ltb, length, set, drop, replicate, Option, Some, None, ◌||◌}
use Rattle.std.proofs.Common.{sym, ◌∙◌, inl, inr, add-zero, add-one, arith, drop_of_length-le, get_or-set_same}
use Rattle.std.proofs.Math.Path.{ap}
use mathlib.Core.List.{List, [], ◌∷◌, ◌++◌}
use Rattle.std.proofs.Math.ListN.{get_or}
use borrow.Author.Tests.{eq-eqb, ne_eqb, lt-ltb}
use Rattle.basics.specs.Tests.{ask, ask_same, never}
use Rattle.basics.specs.Lists.{In, drop_next, in_at}
use Rattle.basics.specs.Counts.{times, times-most, bit}
use Rattle.room.specs.declared.Room.{Room}
use Rattle.room.specs.declared.Move.{Move}
use Rattle.room.specs.declared.RouterConfig.{RouterConfig}
use Rattle.room.specs.Room.{by, volume, moves, move_at, neighbour}
use Rattle.room.specs.Units.{max_product, dearest}
use Rattle.room.specs.MoveLaws.{leads}
use Rattle.best_first.specs.Search
use Rattle.best_first.specs.Ways.{Sound}
use Rattle.best_first.specs.ListsAfterSet.{in_reach}
use Rattle.best_first.proofs.Base.{Loose}
use Rattle.best_first.proofs.Predecessors.{lowered}
use Rattle.sweeps.specs.Sweeps.{Grounded, AtRest, Progress, NoHigher, TriedFrom, BeatenBy, known_sum}
use Rattle.sweeps.specs.RestLaws.{rest-counted, count-one}
use Rattle.sweeps.specs.FewSweeps.{beaten-more, sweeps_few, some_known}
use Rattle.sweeps.specs.SweepLaws.{progress-none, progress-both, progress-still, kept-most, lower-kept, lower-stays, lower-falls, first-kept}
use Rattle.room_search.specs.Routing.{places_in, total, price_of, move_into, moves_by, graph_of}
use Rattle.room_search.specs.GraphLaws.{Made, made, sound}
use Rattle.plain.specs.declared.Errand.{Errand}
use Rattle.plain.specs.Answers.{unused_queue}
use Rattle.plain.specs.Sweeping.{errand_graph, Lowered, no_dearer, lowers, ErrandFit, Sweeping, LooseMove, MoveSwept, MovesSwept, Swept, Ready, Settled}

-- ---- a move that leads to a cell that can be entered is one of the graph's

module _ (R : Room) (C : RouterConfig) (class : ℕ → ℕ) (u : ℕ) (m : Move) (v : ℕ) (leads_in : neighbour R u m ≡ Some v) (can_enter_lem : class v ≡ 0 → ⊥) where
  abbrev g : Search.Move
  g = record { to = v; cost = total (price_of C m (class v)) }

  makes : (ms : List Move) → In m ms → In g (moves_by R C class u ms)
  unfolding moves_by
  makes [] i = absurd i
  makes (k ∷ ms) (inl e) = rw (sym e, leads_in, ne_eqb (class v) 0 can_enter_lem) (inl refl)
  makes (k ∷ ms) (inr i) = past (neighbour R u k) (makes ms i)
    where
      past : (w : Option ℕ) → In g (moves_by R C class u ms) → In g (move_into C class k w ++ moves_by R C class u ms)
      past None j = j
      past (Some t) j = ask (eqb (class t) 0) (λ z. rw z j) (λ z. rw z (inr j))

-- ---- what a move costs

module _ (C : RouterConfig) (m : Move) (class : ℕ) where
  pub cost-flat : m.y ≡ 1 → C.horizontal.0 ≡ (price_of C m class).step.0
  unfolding price_of
  cost-flat e = rw (eq-eqb m.y 1 e)

  pub cost_stair : m.y ≢ 1 → C.stair.0 ≡ (price_of C m class).step.0
  unfolding price_of
  cost_stair e = rw (ne_eqb m.y 1 e)

  -- the step is the same into a cell of any class
  pub cost-laid : (step : ℕ) → class ≡ 2 → step ≡ (price_of C m 0).step.0 → step + C.support.0 ≡ total (price_of C m class)
  unfolding price_of
  cost-laid step e f = rw (f, eq-eqb class 2 e)

  pub cost-bare : (step : ℕ) → class ≢ 2 → step ≡ (price_of C m 0).step.0 → step ≡ total (price_of C m class)
  unfolding price_of
  cost-bare step e f = rw (ne_eqb class 2 e, add-zero) f

-- ---- numbers on the way

module _ {E : Errand} {classes : List ℕ} (F : ErrandFit E classes) where
  pub fit-sound : Sound (errand_graph E classes) 12 (dearest E.config)
  fit-sound = sound E.room E.config (λ v. get_or classes v 0) E.start E.goal (places_in unused_queue) F.start_in F.goal_in

  module _ {known previous : List ℕ} (K : Grounded (errand_graph E classes) (dearest E.config) known previous) where
    pub fit-long : (length known ≡ volume E.room) × (length previous ≡ volume E.room)
    unfolding graph_of
    fit-long = (K.linked.known-long, K.linked.previous-long)

    -- a known cost and the dearest step fit 32 bits, with 1 added
    pub fit-most : (u : ℕ) → 0 < get_or known u 0 → get_or known u 0 + dearest E.config ≤ suc max_product
    unfolding graph_of
    fit-most u p = omega (arith, kept-most fit-sound K u p, F.config-good.product_most)

-- ---- costs that fall

pub no_higher : (known : List ℕ) → NoHigher known known
no_higher known v p = (p, omega arith)

pub lower-then : (a b c : List ℕ) → NoHigher a b → NoHigher b c → NoHigher a c
lower-then a b c f g v p = let q = f v p in let r = g v q.0 in (r.0, omega (arith, q, r))

loose-later : {a b : List ℕ} {u : ℕ} {g : Search.Move} → NoHigher a b → get_or b u 0 ≡ get_or a u 0 → Loose a u g → Loose b u g
loose-later {a} {b} {u} {g} f e l = let q = f g.to l.is_known in record { is_known = q.0; cheap = omega (arith, q, e, l.cheap) }

tried-later : {a b c : List ℕ} {u : ℕ} {g : Search.Move} → NoHigher b c → TriedFrom a b u g → TriedFrom a c u g
tried-later {g = g} f t = let q = f g.to t.is_known in record { is_known = q.0; cheap = omega (arith, q, t.cheap) }

tried-dearer : {a b c : List ℕ} {u : ℕ} {g : Search.Move} → get_or b u 0 ≤ get_or a u 0 → TriedFrom b c u g → TriedFrom a c u g
tried-dearer h t = record { is_known = t.is_known; cheap = omega (arith, t.cheap) }

-- ---- one move of u, whose cost is c

module _ {E : Errand} {classes known previous : List ℕ} (S : Sweeping E classes known previous) (u c : ℕ) (is_c : get_or known u 0 ≡ suc c) (m : Move) where
  pub from_in : u < volume E.room
  from_in = omega (arith, in_reach known u (omega (arith, is_c)), (fit-long S.fit S.kept).0)

  pub move-out : neighbour E.room u m ≡ None → MoveSwept E classes u m known false known previous
  move-out e = record { kept = S.kept; progress = progress-none; lower = no_higher known; stays = refl; loose = λ v q. never (cc) }

  module _ (v : ℕ) (e : neighbour E.room u m ≡ Some v) where
    pub into_in : v < volume E.room
    into_in = (leads E.room u m v e).inside

    same-cell : (w : ℕ) → neighbour E.room u m ≡ Some w → w ≡ v
    same-cell w q = cc

    pub move-shut : get_or classes v 0 ≡ 0 → MoveSwept E classes u m known false known previous
    move-shut z = record { kept = S.kept; progress = progress-none; lower = no_higher known; stays = refl; loose = λ w q n. absurd (n (rw (same-cell w q) z)) }

    module _ (listed : In m moves) (can_enter_lem : get_or classes v 0 ≡ 0 → ⊥) where
      abbrev step : Search.Move
      step = record { to = v; cost = total (price_of E.config m (get_or classes v 0)) }

      lawful : In step ((errand_graph E classes).moves u)
      unfolding graph_of
      lawful = makes E.room E.config (λ w. get_or classes w 0) u m v e can_enter_lem moves listed

      pub move-offered : {r : Bool} {known' previous' : List ℕ} (x : ℕ) → x ≡ total (price_of E.config m (get_or classes v 0))
          → Lowered u v (c + x) known previous r known' previous' → MoveSwept E classes u m known r known' previous'
      move-offered x f (no_dearer a b d p q) = rw (a, p, q) (record {
        kept = S.kept;
        progress = progress-none;
        lower = no_higher known;
        stays = refl;
        loose = λ w y n. rw (same-cell w y) (record { is_known = b; cheap = omega (arith, is_c, f) });
      })
      move-offered x f (lowers a b p q) = rw (a, p, q) (record {
        kept = lower-kept sound-g S.kept u step lawful u-known (c + x) is_x b;
        progress = lower-falls sound-g S.kept u step lawful u-known (c + x) is_x b;
        lower = λ w k. lowered known v (suc (c + x)) w placed (omega arith) b k;
        stays = lower-stays sound-g S.kept u step lawful u-known (c + x) is_x b;
        loose = λ w y n. rw (same-cell w y) (record {
          is_known = omega (arith, get_or-set_same known v (suc (c + x)) 0 placed);
          cheap = omega (arith, get_or-set_same known v (suc (c + x)) 0 placed, lower-stays sound-g S.kept u step lawful u-known (c + x) is_x b, is_x);
        });
      })
        where
          placed : v < length known
          placed = omega (arith, into_in, (fit-long S.fit S.kept).0)

          sound-g : Sound (errand_graph E classes) 12 (dearest E.config)
          sound-g = fit-sound S.fit

          u-known : 0 < get_or known u 0
          u-known = omega (arith, is_c)

          is_x : suc (c + x) ≡ get_or known u 0 + total (price_of E.config m (get_or classes v 0))
          is_x = omega (arith, is_c, f)

-- ---- what a loop carries: r of this round, b of the rounds before, and both together

or_true : (b : Bool) → b || true ≡ true
or_true true = refl
or_true false = refl

or_false : (b : Bool) → b || false ≡ b
or_false true = refl
or_false false = refl

abbrev pub Together : Bool → Bool → Bool → Type 0
Together r b both = ((r ≡ true) × (both ≡ true)) ⊎ ((r ≡ false) × (both ≡ b))

pub together : (b r : Bool) → Together r b (b || r)
together b true = inl (refl, or_true b)
together b false = inr (refl, or_false b)

module _ {G : Search.Graph} {D : ℕ} {k l m : List ℕ} where
  pub progress-then : {b r : Bool} (both : Bool) → Together r b both → Progress G D b k l → Progress G D r l m → Progress G D both k m
  progress-then both (inl e) p q = rw e.1 (progress-both p (rw e.0 at q))
  progress-then both (inr e) p q = rw e.1 (progress-still p (rw e.0 at q))

pub both_false : (r b both : Bool) → Together r b both → both ≡ false → (r ≡ false) × (b ≡ false)
both_false r b both (inl e) f = never (cc)
both_false r b both (inr e) f = (e.0, sym e.1 ∙ f)

-- ---- the moves of u one after another: those below k are tried

pub record MovesSweptBelow (E : Errand) (classes : List ℕ) (u : ℕ) (known : List ℕ) (k : ℕ) (changed : Bool) (known' previous' : List ℕ) : Type 0 where
  pub within : k ≤ 12
  pub kept : Grounded (errand_graph E classes) (dearest E.config) known' previous'
  pub progress : Progress (errand_graph E classes) (dearest E.config) changed known known'
  pub lower : NoHigher known known'
  pub stays : get_or known' u 0 ≡ get_or known u 0
  pub loose : (m : Move) → In m moves → In m (drop k moves) ⊎ LooseMove E classes known' u m

moves_next : (k : ℕ) → k < 12 → drop k moves ≡ move_at k ∷ drop (k + 1) moves
unfolding moves
moves_next k h = drop_next moves k (by 0 0 0) h

pub move-listed : (k : ℕ) → k < 12 → In (move_at k) moves
unfolding moves
move-listed k h = in_at moves k (by 0 0 0) h

module _ {E : Errand} {classes : List ℕ} {u : ℕ} {known : List ℕ} where
  pub below_none : {previous : List ℕ} → Sweeping E classes known previous → MovesSweptBelow E classes u known 0 false known previous
  below_none S = record { within = omega arith; kept = S.kept; progress = progress-none; lower = no_higher known; stays = refl; loose = λ m i. inl i }

  pub moves_unknown : {previous : List ℕ} → Sweeping E classes known previous → get_or known u 0 ≡ 0 → MovesSwept E classes u known false known previous
  moves_unknown S z = record { kept = S.kept; progress = progress-none; lower = no_higher known; tried = λ p. absurd (omega arith) }

  pub below_next : {k : ℕ} {b r : Bool} (both : Bool) {known₁ previous₁ known₂ previous₂ : List ℕ} → k < 12 → Together r b both → MovesSweptBelow E classes u known k b known₁ previous₁
      → MoveSwept E classes u (move_at k) known₁ r known₂ previous₂ → MovesSweptBelow E classes u known (k + 1) both known₂ previous₂
  below_next {k} {b} {r} both {known₁} {previous₁} {known₂} h e A T = record {
    within = omega arith;
    kept = T.kept;
    progress = progress-then both e A.progress T.progress;
    lower = lower-then known known₁ known₂ A.lower T.lower;
    stays = T.stays ∙ A.stays;
    loose = λ m i. past m (A.loose m i);
  }
    where
      past : (m : Move) → In m (drop k moves) ⊎ LooseMove E classes known₁ u m → In m (drop (k + 1) moves) ⊎ LooseMove E classes known₂ u m
      past m (inr l) = inr (λ v q n. loose-later T.lower T.stays (l v q n))
      past m (inl i) = go (rw (moves_next k h) at i)
        where
          go : (m ≡ move_at k) ⊎ In m (drop (k + 1) moves) → In m (drop (k + 1) moves) ⊎ LooseMove E classes known₂ u m
          go (inl q) = inr (rw q T.loose)
          go (inr j) = inl j

  pub below_all : {k : ℕ} {b : Bool} {known' previous' : List ℕ} → 12 ≤ k → MovesSweptBelow E classes u known k b known' previous' → MovesSwept E classes u known b known' previous'
  unfolding graph_of moves
  below_all {k} {b} {known'} h A = record {
    kept = A.kept;
    progress = A.progress;
    lower = A.lower;
    tried = λ _ g i. go (made E.room E.config (λ v. get_or classes v 0) u moves g i);
  }
    where
      go : {g : Search.Move} → Made E.room E.config (λ v. get_or classes v 0) u moves g → TriedFrom known known' u g
      go {g} a = out (A.loose a.by a.listed)
        where
          none : k ≡ 12
          none = omega (arith, A.within)

          out : In a.by (drop k moves) ⊎ LooseMove E classes known' u a.by → TriedFrom known known' u g
          out (inl i) = absurd (rw none at i)
          out (inr l) = let o = l a.into a.leads_in a.entered in rw a.is (record { is_known = o.is_known; cheap = omega (arith, o.cheap, A.stays) })

-- ---- the cells one after another: those below n are swept

pub record CellsSweptBelow (E : Errand) (classes known : List ℕ) (n : ℕ) (changed : Bool) (known' previous' : List ℕ) : Type 0 where
  pub kept : Grounded (errand_graph E classes) (dearest E.config) known' previous'
  pub progress : Progress (errand_graph E classes) (dearest E.config) changed known known'
  pub lower : NoHigher known known'
  pub tried : (u : ℕ) (g : Search.Move) → u < n → 0 < get_or known u 0 → In g ((errand_graph E classes).moves u) → TriedFrom known known' u g

module _ {E : Errand} {classes known : List ℕ} where
  pub cells-none : {previous : List ℕ} → Sweeping E classes known previous → CellsSweptBelow E classes known 0 false known previous
  cells-none S = record { kept = S.kept; progress = progress-none; lower = no_higher known; tried = λ u g h. absurd (omega arith) }

  pub cells-next : {n : ℕ} {b r : Bool} (both : Bool) {known₁ previous₁ known₂ previous₂ : List ℕ} → Together r b both → CellsSweptBelow E classes known n b known₁ previous₁
      → MovesSwept E classes n known₁ r known₂ previous₂ → CellsSweptBelow E classes known (n + 1) both known₂ previous₂
  cells-next {n} {b} {r} both {known₁} {previous₁} {known₂} e A T = record {
    kept = T.kept;
    progress = progress-then both e A.progress T.progress;
    lower = lower-then known known₁ known₂ A.lower T.lower;
    tried = λ u g h p i. ask_same u n
        (λ q. rw q (let l = A.lower n (rw q at p) in tried-dearer l.1 (T.tried l.0 g (rw q at i))))
        (λ d. tried-later T.lower (A.tried u g (omega (arith, d)) p i));
  }

  pub cells-all : {n : ℕ} {b : Bool} {known' previous' : List ℕ} → length known ≤ n → CellsSweptBelow E classes known n b known' previous' → Swept E classes known b known' previous'
  cells-all h A = record {
    kept = A.kept;
    progress = A.progress;
    lower = A.lower;
    tried = λ u g p i. A.tried u g (omega (arith, in_reach known u p)) p i;
  }

-- ---- sweep after sweep

-- every way of as many steps as sweeps were made is beaten; the last sweep changed something and known cells are left over, or nothing gets cheaper
pub record SweepsMade (E : Errand) (classes : List ℕ) (sweeps : ℕ) (changed : Bool) (known previous : List ℕ) : Type 0 where
  pub kept : Grounded (errand_graph E classes) (dearest E.config) known previous
  pub beaten : BeatenBy (errand_graph E classes) sweeps known
  pub more : changed ≡ true → sweeps < times (ltb 0) known
  pub rest : changed ≡ false → AtRest (errand_graph E classes) known × (sweeps ≤ times (ltb 0) known)

-- what falls with each sweep
abbrev pub sum_left : Errand → List ℕ → Bool → ℕ
sum_left E known changed = known_sum (suc (suc (volume E.room * dearest E.config))) known + bit changed

module _ {E : Errand} {classes : List ℕ} where
  pub going-first : {known previous known₀ previous₀ : List ℕ} → Ready E classes known₀ previous₀ → known ≡ replicate (length known₀) 0 → previous ≡ replicate (length previous₀) 0
      → SweepsMade E classes 0 true (set known E.start 1) previous
  unfolding graph_of
  going-first {known} {previous} S e f =
      record { kept = K; beaten = beaten; more = λ z. some; rest = λ z. never (cc) }
    where
      K : Grounded (errand_graph E classes) (dearest E.config) (set known E.start 1) previous
      K = rw (e, f, S.known-long, S.previous-long) (first-kept (fit-sound S.fit))

      beaten : BeatenBy (errand_graph E classes) 0 (set known E.start 1)
      beaten [] t d h W = let k = K.linked.start-known in let e = ap (λ n. get_or (set known E.start 1) n 0) W.0 in (omega (arith, k, e), omega (arith, k, e))
      beaten (v ∷ l) t d h W = absurd (omega arith)

      some : 0 < times (ltb 0) (set known E.start 1)
      some = some_known (set known E.start 1) E.start (let k = K.linked.start-known in omega (arith, k))

  pub going_next : {sweeps : ℕ} {known previous known' previous' : List ℕ} {r : Bool} → SweepsMade E classes sweeps true known previous → Swept E classes known r known' previous'
      → SweepsMade E classes (sweeps + 1) r known' previous'
  going_next {sweeps} {known} {previous} {known'} {previous'} {r} A W = record {
    kept = W.kept;
    beaten = rw add-one (beaten-more (errand_graph E classes) sweeps known known' W.lower W.tried A.beaten);
    more = λ t. rw add-one (sweeps_few sweeps A.kept.linked.known-long A.beaten W.lower W.kept (rw t at W.progress));
    rest = λ f. let e = W.progress.same f in
        (λ u g p i. let t = W.tried u g (rw e at p) i in record { is_known = t.is_known; cheap = omega (arith, t.cheap, ap (λ l. get_or l u 0) e) }, omega (arith, A.more refl, ap (times (ltb 0)) e));
  }

  pub going_less : {known known' previous' : List ℕ} {r : Bool} → Swept E classes known r known' previous' → sum_left E known' r < sum_left E known true
  unfolding graph_of
  going_less {known} {known'} {previous'} {r} W =
      ask r (λ t. rw t (omega (arith, W.progress.falls t))) (λ f. rw (f, W.progress.same f) (omega arith))

  -- the count of sweeps fits
  pub going-fits : {sweeps : ℕ} {known previous : List ℕ} → SweepsMade E classes sweeps true known previous → sweeps < length known
  going-fits {sweeps} {known} A = omega (arith, A.more refl, times-most (ltb 0) known)

  pub going_done : {sweeps : ℕ} {known previous : List ℕ} {b : Bool} → b ≡ false → SweepsMade E classes sweeps b known previous → Settled E classes known previous sweeps
  going_done f A =
      let r = A.rest f in
      record { kept = A.kept; rest = r.0; few = λ k C. omega (arith, r.1, count-one (rest-counted A.kept r.0) C) }

-- ---- how many cells are known

pub record CountedBelow (known : List ℕ) (i count : ℕ) : Type 0 where
  pub within : i ≤ length known
  pub few : count ≤ i
  pub is : count + times (ltb 0) (drop i known) ≡ times (ltb 0) known

module _ {known : List ℕ} where
  pub counted_none : CountedBelow known 0 0
  counted_none = record { within = omega arith; few = omega arith; is = omega arith }

  module _ {i count : ℕ} (A : CountedBelow known i count) (h : i < length known) where
    next : times (ltb 0) (drop i known) ≡ bit (ltb 0 (get_or known i 0)) + times (ltb 0) (drop (i + 1) known)
    unfolding times
    next = ap (times (ltb 0)) (drop_next known i 0 h)

    pub counted-one : 0 < get_or known i 0 → CountedBelow known (i + 1) (count + 1)
    counted-one p = record { within = omega arith; few = omega (arith, A.few); is = omega (arith, A.is, rw (lt-ltb 0 (get_or known i 0) p) at next) }

    pub counted_zero : get_or known i 0 ≡ 0 → CountedBelow known (i + 1) count
    counted_zero z = record { within = omega arith; few = omega (arith, A.few); is = omega (arith, A.is, rw z at next) }

  pub counted-all : {i count : ℕ} → length known ≤ i → CountedBelow known i count → count ≡ times (ltb 0) known
  unfolding times
  counted-all {i} {count} h A = omega (arith, A.is, ap (times (ltb 0)) (drop_of_length-le known h))
