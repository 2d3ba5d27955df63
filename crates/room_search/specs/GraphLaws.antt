-- The graph of a room is fit for the search: its moves stay inside and are at most twelve and not dearer than the dearest step with a new
-- support; and no move lowers the estimate by more than its cost where a flat step costs at least 10 and a stair at least 20.
use Rattle.std.specs.Prelude.{◌≡◌, eqb, Option, Some, None}
use Rattle.std.proofs.Math.Path.{refl}
use Rattle.std.proofs.Common.{sym, ap, ◌∙◌, inr}
use Rattle.std.proofs.Math.Logic.{inl}
use mathlib.Core.List.{List, [], ◌∷◌, ◌++◌}
use Prim.Native.Nat.{ℕ, suc, ◌+◌, ◌≤◌, ◌<◌, max, zero-le}
use native.Mathlib.Omega.{arith}
use Rattle.std.proofs.Math.ListN.{length}
use Rattle.std.proofs.lemmas.Bool.{eqb-false}
use Rattle.basics.specs.Tests.{ask}
use Rattle.basics.specs.Lists.{In}
use Rattle.room.specs.declared.Room.{Room}
use Rattle.room.specs.declared.Move.{Move}
use Rattle.room.specs.declared.RouterConfig.{RouterConfig}
use Rattle.room.specs.Room.{volume, moves, neighbour, distance, flat}
use Rattle.room.specs.MoveLaws.{most, leads, nearer}
use Rattle.best_first.specs.Search
use Rattle.best_first.specs.Ways.{GraphStep, Sound, Consistent}
use Rattle.room_search.specs.Routing.{Task, entering, total, price_of, move_into, moves_by, estimate_of, graph_of, graph}
use Rattle.room.specs.Units.{dearest}

-- a move of the graph is one of the room's moves, which leads to a cell that can be entered
pub record Made (R : Room) (C : RouterConfig) (class : ℕ → ℕ) (u : ℕ) (ms : List Move) (g : Search.Move) : Type 0 where
  pub by : Move
  pub listed : In by ms
  pub into : ℕ
  pub leads_in : neighbour R u by ≡ Some into
  pub entered : class into ≡ 0 → ⊥
  pub is : g ≡ record { to = into; cost = total (price_of C by (class into)) }

module _ (R : Room) (C : RouterConfig) (class : ℕ → ℕ) (u : ℕ) where
  later : (m : Move) (ms : List Move) (g : Search.Move) → Made R C class u ms g → Made R C class u (m ∷ ms) g
  later m ms g a = record { by = a.by; listed = inr a.listed; into = a.into; leads_in = a.leads_in; entered = a.entered; is = a.is }

  pub made : (ms : List Move) (g : Search.Move) → In g (moves_by R C class u ms) → Made R C class u ms g
  unfolding moves_by
  made [] g i = absurd i
  made (m ∷ ms) g i = go (neighbour R u m) refl i (made ms g)
    where
      first : (v : ℕ) → neighbour R u m ≡ Some v → (class v ≡ 0 → ⊥) → In g (record { to = v; cost = total (price_of C m (class v)) } ∷ moves_by R C class u ms)
          → (In g (moves_by R C class u ms) → Made R C class u ms g) → Made R C class u (m ∷ ms) g
      first v e n (inl q) ih = record { by = m; listed = inl refl; into = v; leads_in = e; entered = n; is = q }
      first v e n (inr j) ih = later m ms g (ih j)

      go : (w : Option ℕ) → neighbour R u m ≡ w → In g (move_into C class m w ++ moves_by R C class u ms)
          → (In g (moves_by R C class u ms) → Made R C class u ms g) → Made R C class u (m ∷ ms) g
      go None e j ih = later m ms g (ih j)
      go (Some v) e j ih =
          ask (eqb (class v) 0) (λ t. later m ms g (ih (rw t at j))) (λ f. first v e (eqb-false _ _ f) (rw f at j) ih)

  -- each of the room's moves makes at most one
  few-moves : (ms : List Move) → length (moves_by R C class u ms) ≤ length ms
  unfolding moves_by
  few-moves [] = zero-le
  few-moves (m ∷ ms) = go (neighbour R u m) (few-moves ms)
    where
      go : (w : Option ℕ) → length (moves_by R C class u ms) ≤ length ms → length (move_into C class m w ++ moves_by R C class u ms) ≤ suc (length ms)
      go None h = omega arith
      go (Some v) h = ask (eqb (class v) 0) (λ t. rw t (omega arith)) (λ f. rw f (omega arith))

-- a step of the search's graph goes by one of the room's moves, into a cell that can be entered, and costs what that takes
pub record StepBy (T : Task) (u v c : ℕ) : Type 0 where
  pub by : Move
  pub listed : In by moves
  pub leads_in : neighbour T.room u by ≡ Some v
  pub entered : entering T v ≡ 0 → ⊥
  pub cost-is : total (price_of T.config by (entering T v)) ≡ c

pub step_by : (T : Task) (u v c : ℕ) → GraphStep (graph T) u v c → StepBy T u v c
unfolding GraphStep graph_of
step_by T u v c s =
    let a = made T.room T.config (entering T) u moves s.0 s.1 in
    let to : a.into ≡ v = ap (λ (g : Search.Move). g.to) (sym a.is) ∙ s.2 in
    let cost : total (price_of T.config a.by (entering T a.into)) ≡ c = ap (λ (g : Search.Move). g.cost) (sym a.is) ∙ s.3 in
    rw (← to, ← cost) (record { by = a.by; listed = a.listed; leads_in = a.leads_in; entered = a.entered; cost-is = refl })

-- no move costs more than the dearest step with a new support
pub price-low : (C : RouterConfig) (m : Move) (class : ℕ) → total (price_of C m class) ≤ dearest C
unfolding price_of dearest
price-low C m class =
    let step : (price_of C m class).step.0 ≤ max C.horizontal.0 C.stair.0 = ask (flat m) (λ t. rw t (omega arith)) (λ f. rw f (omega arith)) in
    let support : (price_of C m class).support.0 ≤ C.support.0 = ask (eqb class 2) (λ t. rw t (omega arith)) (λ f. rw f (omega arith)) in
    omega arith

module _ (R : Room) (C : RouterConfig) (class : ℕ → ℕ) (start goal places : ℕ) where
  pub sound : start < volume R → goal < volume R → Sound (graph_of R C class start goal places) 12 (dearest C)
  unfolding graph_of moves
  sound s g = record {
    some = omega arith;
    start_in = s;
    goal_in = g;
    few = λ u. twelve u;
    inside = λ u m i. inner u m (made R C class u moves m i);
    dear = λ u m i. cheap u m (made R C class u moves m i);
  }
    where
      twelve : (u : ℕ) → length (moves_by R C class u moves) ≤ 12
      twelve u = few-moves R C class u moves

      inner : (u : ℕ) (m : Search.Move) → Made R C class u moves m → m.to < volume R
      inner u m a = rw a.is (leads R u a.by a.into a.leads_in).inside

      cheap : (u : ℕ) (m : Search.Move) → Made R C class u moves m → m.cost ≤ dearest C
      cheap u m a = rw a.is (price-low C a.by (class a.into))

  -- with a flat step of at least 10 and a stair of at least 20
  module _ (flat-least : 10 ≤ C.horizontal.0) (stair_least : 20 ≤ C.stair.0) where
    covers : (m : Move) (k : ℕ) → estimate_of (most m) ≤ total (price_of C m k)
    unfolding most price_of
    covers m k = ask (flat m) (λ t. rw t (omega arith)) (λ f. rw f (omega arith))

    pub consistent : Consistent (graph_of R C class start goal places)
    unfolding graph_of distance
    consistent = record { goal_zero = omega arith; falls = λ u m i. falls u m (made R C class u moves m i) }
      where
        falls : (u : ℕ) (m : Search.Move) → Made R C class u moves m → estimate_of (distance R u goal) ≤ m.cost + estimate_of (distance R m.to goal)
        falls u m a = rw a.is (omega (arith, nearer R u a.by a.into goal a.listed a.leads_in, covers a.by (class a.into)))
