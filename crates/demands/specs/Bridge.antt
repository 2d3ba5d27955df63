-- A move of a room's graph is a lawful step at its cost, and a lawful step is such a move; so a way through the graph is a lawful way.
use Rattle.std.specs.Prelude.{◌≡◌, true, ℕ, ◌+◌, ◌≤◌, eqb, Option, Some, None}
use Rattle.std.proofs.Math.Path.{refl, sym}
use Rattle.std.proofs.Common.{◌∙◌, inl, inr, arith}
use mathlib.Core.List.{List, [], ◌∷◌, ◌++◌}
use borrow.Author.Tests.{eq-eqb, ne_eqb}
use Rattle.basics.specs.Tests.{ask, ask_same}
use Rattle.basics.specs.Lists.{In}
use Rattle.room.specs.declared.Room.{Room}
use Rattle.room.specs.declared.Move.{Move}
use Rattle.room.specs.declared.RouterConfig.{RouterConfig}
use Rattle.room.specs.Room.{Good, pos_of, moves, neighbour, apart, move_between}
use Rattle.room.specs.Units.{air, solid, transparent, redstone_block}
use Rattle.room.specs.MoveLaws.{Moved, small, leads, leads-cell, apart_by, between-moved, between-listed}
use Rattle.best_first.specs.Search
use Rattle.best_first.specs.Ways.{GraphStep, Way}
use Rattle.room_search.specs.Routing.{Task, routeable, bearing, class_for, entering, total, price_of, move_into, moves_by, graph_of, graph}
use Rattle.room_search.specs.GraphLaws.{step_by}
use Rattle.demands.specs.Lawful.{support_of, LawfulStep, step_cost, LawfulSteps, cost_from}

-- ---- what a cell's class says

support_laid : (kind : ℕ) → eqb (bearing kind) 2 ≡ eqb kind air
unfolding bearing
support_laid kind =
    ask (eqb kind air) (λ a. rw a)
    (λ a. ask (eqb kind solid) (λ b. rw (a, b))
    (λ b. ask (eqb kind transparent) (λ c. rw (a, b, c)) (λ c. ask (eqb kind redstone_block) (λ d. rw (a, b, c, d)) (λ d. rw (a, b, c, d)))))

module _ (T : Task) (v : ℕ) where
  class_free : (entering T v ≡ 0 → ⊥) → routeable T v ≡ true
  unfolding class_for routeable
  class_free n = ask (routeable T v) (λ t. t) (λ f. absurd (n (rw f)))

  class_is : routeable T v ≡ true → entering T v ≡ bearing (support_of T v)
  unfolding class_for routeable
  class_is e = rw e

-- ---- each move that leads to a cell that can be entered makes a move of the graph

module _ (R : Room) (C : RouterConfig) (class : ℕ → ℕ) (u : ℕ) (m : Move) (v : ℕ) (leads_in : neighbour R u m ≡ Some v) (can_enter_lem : class v ≡ 0 → ⊥) where
  abbrev g : Search.Move
  g = record { to = v; cost = total (price_of C m (class v)) }

  makes : (ms : List Move) → In m ms → In g (moves_by R C class u ms)
  unfolding moves_by
  makes [] i = absurd i
  makes (k ∷ ms) (inl e) = rw (sym e, leads_in, ne_eqb (class v) 0 can_enter_lem) (inl refl)
  makes (k ∷ ms) (inr i) = past (neighbour R u k) (makes ms i)
    where
      past : (w : Option ℕ) → In g (moves_by R C class u ms) → In g (move_into C class k w ++ moves_by R C class u ms)
      past None j = j
      past (Some t) j = ask (eqb (class t) 0) (λ z. rw z j) (λ z. rw z (inr j))

-- ---- a move by positions

-- in one direction, from a to t by o
unmoved-exactly : (a o t : ℕ) → t + 1 ≡ a + o → eqb o 1 ≡ eqb a t
unmoved-exactly a o t e =
    ask_same o 1 (λ q. eq-eqb o 1 q ∙ sym (eq-eqb a t (omega arith))) (λ d. ne_eqb o 1 d ∙ sym (ne_eqb a t (λ z. d (omega arith))))

at_most_one : (o : ℕ) → o ≤ 2 → apart o 1 ≤ 1
at_most_one o h = omega arith

-- ---- steps and ways

module _ (T : Task) where
  price-exactly : (u v : ℕ) (m : Move) → Moved (pos_of T.room u) m (pos_of T.room v) → routeable T v ≡ true
      → total (price_of T.config m (entering T v)) ≡ step_cost T u v
  unfolding price_of step_cost
  price-exactly u v m k e = rw (class_is T v e, support_laid (support_of T v), unmoved-exactly _ _ _ k.y_by)

  move-lawful : (u : ℕ) (m : Move) (v : ℕ) → In m moves → neighbour T.room u m ≡ Some v → (entering T v ≡ 0 → ⊥)
      → LawfulStep T u v × (total (price_of T.config m (entering T v)) ≡ step_cost T u v)
  move-lawful u m v i e n =
      let l = leads T.room u m v e in
      let s = small m i in
      let free = class_free T v n in
      let k : bearing (support_of T v) ≡ 0 → ⊥ = λ z. n (class_is T v free ∙ z) in (
        record {
          to_in = l.inside;
          aside = rw (apart_by _ _ _ l.moved.x_by, apart_by _ _ _ l.moved.z_by) s.aside;
          rise = rw (apart_by _ _ _ l.moved.y_by) (at_most_one m.y s.y_small);
          enters = free;
          stands = omega arith;
        },
        price-exactly u v m l.moved free,
      )

  pub step-lawful : (u v c : ℕ) → GraphStep (graph T) u v c → LawfulStep T u v × (c ≡ step_cost T u v)
  step-lawful u v c s = let a = step_by T u v c s in rw (← a.cost-is) (move-lawful u a.by v a.listed a.leads_in a.entered)

  pub way-lawful : (l : List ℕ) (u t d : ℕ) → Way (graph T) u l t d → LawfulSteps T u l t × (d ≡ cost_from T u l)
  way-lawful [] u t d w = w
  way-lawful (v ∷ l) u t d w =
      let s = step-lawful u v w.0 w.2 in
      let r = way-lawful l v t w.1 w.3 in
      ((s.0, r.0), omega (arith, w.4, s.1, r.1))

  module _ (good : Good T.room) where
    pub lawful-step : (u v : ℕ) → LawfulStep T u v → GraphStep (graph T) u v (step_cost T u v)
    unfolding GraphStep graph_of
    lawful-step u v L =
        let p = pos_of T.room u in
        let q = pos_of T.room v in
        let m = move_between p q in
        let moved = between-moved p q L.aside L.rise in
        let e = leads-cell T.room good u m v L.to_in moved in
        let can_enter_lem : entering T v ≡ 0 → ⊥ = λ z. omega (arith, L.stands, sym (class_is T v L.enters) ∙ z) in (
          record { to = v; cost = total (price_of T.config m (entering T v)) },
          makes T.room T.config (entering T) u m v e can_enter_lem moves (between-listed p q L.aside L.rise),
          refl,
          price-exactly u v m moved L.enters,
        )

    pub lawful-way : (l : List ℕ) (u t : ℕ) → LawfulSteps T u l t → Way (graph T) u l t (cost_from T u l)
    lawful-way [] u t w = (w, refl)
    lawful-way (v ∷ l) u t w = (step_cost T u v, cost_from T v l, lawful-step u v w.0, lawful-way l v t w.1, refl)
