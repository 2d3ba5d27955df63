-- NO WAY IS CHEAPER THAN A LABEL. By induction along the way: each step leads to an open cell, whose label is known and no higher than by this step. It
-- holds at any support cost, since supports only make a step dearer, and in every graph that enters open cells alone.
use Rattle.std.specs.Prelude.{◌≡◌, ◌≢◌, ℕ, ◌+◌, ◌≤◌, ◌<◌}
use Rattle.std.proofs.Common.{sym, arith}
use mathlib.Core.List.{List, [], ◌∷◌}
use Rattle.std.proofs.Math.ListN.{get_or}
use Rattle.room.specs.declared.Room.{Room}
use Rattle.room.specs.declared.Move.{Move}
use Rattle.room.specs.declared.RouterConfig.{RouterConfig}
use Rattle.room.specs.Room.{volume, moves}
use Rattle.room.specs.MoveLaws.{leads}
use Rattle.best_first.specs.Search
use Rattle.best_first.specs.Ways.{GraphStep, Way}
use Rattle.room_search.specs.Routing.{total, price_of, graph_of}
use Rattle.room_search.specs.GraphLaws.{Made, made}
use Rattle.relaxed.specs.Labels.{Labels}

-- the step alone is no dearer than the step with its support
step-least : (C : RouterConfig) (m : Move) (class : ℕ) → (price_of C m 0).step.0 ≤ total (price_of C m class)
unfolding price_of
step-least C m class = omega arith

module _ (R : Room) (C : RouterConfig) (class : ℕ → ℕ) (start goal places : ℕ) {bytes labels : List ℕ} (L : Labels R C bytes start labels)
    (enters : (v : ℕ) → v < volume R → class v ≢ 0 → get_or bytes v 0 ≢ 0) where
  one-step : (u : ℕ) → u < volume R → 0 < get_or labels u 0 → (g : Search.Move) → Made R C class u moves g
      → (g.to < volume R) × (0 < get_or labels g.to 0) × (get_or labels g.to 0 ≤ get_or labels u 0 + g.cost)
  one-step u h k g a =
      let inside = (leads R u a.by a.into a.leads_in).inside in
      let agrees = L.agree u h k a.by a.listed a.into a.leads_in (enters a.into inside a.entered) in
      rw a.is (inside, agrees.0, omega (arith, agrees.1, step-least C a.by (class a.into)))

  way-from : (l : List ℕ) (u t d : ℕ) → u < volume R → 0 < get_or labels u 0 → Way (graph_of R C class start goal places) u l t d
      → (0 < get_or labels t 0) × (get_or labels t 0 ≤ get_or labels u 0 + d)
  unfolding GraphStep graph_of
  way-from [] u t d h k w = rw (sym w.0) (k, omega arith)
  way-from (v ∷ l) u t d h k w = go w.2 w.4 (λ i n. way-from l v t w.1 i n w.3)
    where
      go : GraphStep (graph_of R C class start goal places) u v w.0 → d ≡ w.0 + w.1
          → (v < volume R → 0 < get_or labels v 0 → (0 < get_or labels t 0) × (get_or labels t 0 ≤ get_or labels v 0 + w.1))
          → (0 < get_or labels t 0) × (get_or labels t 0 ≤ get_or labels u 0 + d)
      go s e later =
          let one = rw (s.2, s.3) at (one-step u h k s.0 (made R C class u moves s.0 s.1)) in
          let rest = later one.0 one.1 in
          (rest.0, omega (arith, rest.1, one.2, e))

  -- so a cell that a way leads to from the start has a label, and the way costs at least that
  pub way_labelled : start < volume R → (l : List ℕ) (t d : ℕ) → Way (graph_of R C class start goal places) start l t d
      → (0 < get_or labels t 0) × (get_or labels t 0 ≤ d + 1)
  way_labelled h l t d w =
      let from = way-from l start t d h (omega (arith, L.start_none)) w in
      (from.0, omega (arith, from.1, L.start_none))
