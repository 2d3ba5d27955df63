-- One move tried, as the code meets it: out of the room, into a cell that can't be entered, or offered; and moves tried one after another.
use Rattle.std.specs.Prelude.{◌≡◌, ◌≢◌, List, [], ◌∷◌, ◌++◌, ℕ, suc, ◌+◌, ◌-◌, ◌*◌, ◌≤◌, ◌<◌, Some, None, Ok, Err}
use Rattle.std.proofs.Math.Path.{refl, sym, ap}
use Rattle.std.proofs.Common.{◌∙◌, append_assoc, mul-le-mul, add-mul, suc-mul, length-append}
use Rattle.std.proofs.Math.Bool.{false, and-false}
use Rattle.std.proofs.Math.Nat.{lt_of_lt_of_le}
use native.Mathlib.Omega.{arith}
use Rattle.std.proofs.Math.ListN.{get_or}
use borrow.Author.Tests.{eq-eqb, ne_eqb}
use Rattle.room.specs.declared.Room.{Room}
use Rattle.room.specs.declared.Pos.{Pos}
use Rattle.room.specs.declared.Move.{Move}
use Rattle.room.specs.declared.RouterConfig.{RouterConfig}
use Rattle.room.specs.declared.Cost.{Cost}
use Rattle.room.specs.Room.{max_side, Good, Within, SmallPos, at, volume, pos_of, cell_of, between, stays, neighbour, distance_at, distance}
use Rattle.room.specs.RoomLaws.{cell_pos, pos_cell, pos_in, cell_in, small_pos}
use Rattle.room.specs.MoveLaws.{Moved, leads-to, not_stays, one_less_in}
use Rattle.room.specs.Units.{max_cost, dearest}
use Rattle.room.specs.UnitLaws.{dearest-most}
use Rattle.best_first.specs.Search.{Graph}
use Rattle.room_search.specs.declared.Width.{Width}
use Rattle.room_search.specs.declared.Price.{Price}
use Rattle.room_search.specs.declared.Spot.{Spot}
use Rattle.room_search.specs.declared.Reached.{Reached}
use Rattle.room_search.specs.declared.Field.{Field}
use Rattle.room_search.specs.declared.Work.{Work}
use Rattle.room_search.specs.declared.QueueFull.{QueueFull}
use Rattle.room_search.specs.Routing.{total, price_of, moves_by, estimate_of, graph_of}
use Rattle.room_search.specs.GraphLaws.{price-low}
use Rattle.room_search.specs.Fields.{Placed}
use Rattle.room_search.specs.TriedMoves.{HeapReady, Readied, Tried, Offered, Setting, setting, due_of, MovesCame, Aside, StepTo, NoStep, out, shut}

-- ---- what one move adds to the moves due

module _ (R : Room) (C : RouterConfig) (class : ℕ → ℕ) (u : ℕ) (m : Move) (ms : List Move) where
  moves_out : neighbour R u m ≡ None → moves_by R C class u (m ∷ ms) ≡ moves_by R C class u ms
  unfolding moves_by
  moves_out e = rw e

  moves-shut : (v : ℕ) → neighbour R u m ≡ Some v → class v ≡ 0 → moves_by R C class u (m ∷ ms) ≡ moves_by R C class u ms
  unfolding moves_by
  moves-shut v e z = rw (e, eq-eqb (class v) 0 z)

  moves_in : (v : ℕ) → neighbour R u m ≡ Some v → class v ≢ 0
      → moves_by R C class u (m ∷ ms) ≡ record { to = v; cost = total (price_of C m (class v)) } ∷ moves_by R C class u ms
  unfolding moves_by
  moves_in v e z = rw (e, ne_eqb (class v) 0 z)

-- ---- where the move leads

module _ (R : Room) (G : Good R) (from beside : Spot) (m : Move) (P : Placed R from) (B : Aside R from beside m) where
  pub out-level : between 1 (beside.at.y + m.y) R.high ≡ false → neighbour R from.cell m ≡ None
  unfolding stays
  out-level e =
      let y : between 1 ((pos_of R from.cell).y + m.y) R.high ≡ false = rw (← P.is, ← B.level) e in
      not_stays R from.cell m (rw y (and-false (between 1 ((pos_of R from.cell).x + m.x) R.wide)))

  module _ (low : 1 ≤ beside.at.y + m.y) (high : beside.at.y + m.y ≤ R.high) where
    landing : Pos
    landing = at beside.at.x (beside.at.y + m.y - 1) beside.at.z

    beside_in : Within R beside.at
    beside_in = rw B.there.is (pos_in R G beside.cell B.there.inside)

    landing_in : Within R landing
    unfolding landing
    landing_in = record { x_in = beside_in.x_in; y_in = one_less_in low high; z_in = beside_in.z_in }

    landing-moved : Moved (pos_of R from.cell) m landing
    unfolding landing
    landing-moved = rw (← P.is) (record { x_by = B.x_by; y_by = level m.y B.level low; z_by = B.z_by })
      where
        level : {a b : ℕ} (c : ℕ) → a ≡ b → 1 ≤ a + c → a + c - 1 + 1 ≡ b + c
        level c e h = omega arith

    row_down : (a b k d : ℕ) → 1 ≤ b + k → (a + (b + k - 1)) * d + d ≡ (a + b) * d + k * d
    row_down a b k d h =
        let e : suc (a + (b + k - 1)) ≡ a + b + k = omega arith in
        sym (suc-mul (a + (b + k - 1)) d) ∙ ap (λ (n : ℕ). n * d) e ∙ add-mul (a + b) k d

    landing-cell : cell_of R landing + R.deep ≡ beside.cell + m.y * R.deep
    unfolding landing cell_of
    landing-cell =
        let c : beside.cell ≡ cell_of R beside.at = sym (cell_pos R beside.cell) ∙ ap (cell_of R) (sym B.there.is) in
        omega (arith, c, row_down (beside.at.x * R.high) beside.at.y m.y R.deep low)

    lands : neighbour R from.cell m ≡ Some (cell_of R landing)
    lands = leads-to R from.cell m landing landing-moved landing_in

    -- the number that the code computes is that of the cell that the move leads to
    pub record Landing (cell : ℕ) : Type 0 where
      pub enough : R.deep ≤ beside.cell + m.y * R.deep
      pub inside : cell < volume R
      pub leads : neighbour R from.cell m ≡ Some cell
      pub place : at beside.at.x (beside.at.y + m.y - 1) beside.at.z ≡ pos_of R cell
      pub small : SmallPos (at beside.at.x (beside.at.y + m.y - 1) beside.at.z)

    pub landed : Landing (beside.cell + m.y * R.deep - R.deep)
    unfolding landing
    landed =
        let w = landing_in in
        let e : cell_of R landing ≡ beside.cell + m.y * R.deep - R.deep = omega (arith, landing-cell) in
        record {
          enough = omega (arith, landing-cell);
          inside = rw e at (cell_in R landing w);
          leads = rw e at lands;
          place = sym (ap (pos_of R) (sym e) ∙ pos_cell R landing w);
          small = record { x_small = lt_of_lt_of_le w.x_in G.x_most; y_small = lt_of_lt_of_le w.y_in G.y_most; z_small = lt_of_lt_of_le w.z_in G.z_most };
        }

-- ---- numbers on the way

module _ (R : Room) (G : Good R) (s : Spot) (P : Placed R s) where
  pub placed-small : SmallPos s.at
  placed-small = small_pos R G s.cell P.inside s.at P.is

pub rise-few : (R : Room) → Good R → (k : ℕ) → k ≤ 2 → k * R.deep ≤ 2 * max_side
rise-few R G k h = mul-le-mul h G.z_most

-- ---- one move

-- no step costs more than the dearest, with a new support
pub step-dearest : {F : Field} {from to : Reached} {m : Move} → StepTo F from m to → to.cost.0 ≤ from.cost.0 + dearest F.config
step-dearest {F} {from} {to} {m} T = omega (arith, T.costs, price-low F.config m (get_or F.classes.now to.spot.cell 0))

pub step-most : {F : Field} {from to : Reached} {m : Move} → StepTo F from m to → to.cost.0 ≤ from.cost.0 + 2 * max_cost
step-most {F} T = omega (arith, step-dearest T, dearest-most F.fits.config-good.ranges)

module _ (F : Field) (from : Reached) (s : Work) (m : Move) where
  abbrev S : Setting
  S = setting F s from

  abbrev class : ℕ → ℕ
  class v = get_or F.classes.now v 0

  pub tried-out : {x : Unit {0}} → HeapReady s → neighbour F.room from.spot.cell m ≡ None → MovesCame S (m ∷ []) s (Ok x) s
  tried-out ready e = record { readied = (ready, omega arith, refl); goes = λ A B ms T. rw (moves_out F.room F.config class from.spot.cell m ms e) at T }

  pub tried-shut : {x : Unit {0}} → HeapReady s → (v : ℕ) → neighbour F.room from.spot.cell m ≡ Some v → class v ≡ 0 → MovesCame S (m ∷ []) s (Ok x) s
  tried-shut ready v e z = record {
    readied = (ready, omega arith, refl);
    goes = λ A B ms T. rw (moves-shut F.room F.config class from.spot.cell m ms v e z) at T;
  }

  pub tried-no-step : {x : Unit {0}} → HeapReady s → NoStep F from m → MovesCame S (m ∷ []) s (Ok x) s
  tried-no-step ready (out e) = tried-out ready e
  tried-no-step ready (shut v e z) = tried-shut ready v e z

  pub tried-offered : {to : Reached} → StepTo F from m to → {r : Tried} {t : Work}
      → Offered from.spot.cell to (estimate_of (distance_at to.spot.at F.goal.at)) s r t → MovesCame S (m ∷ []) s r t
  unfolding graph_of distance
  tried-offered {to} P O = record {
    readied = O.readied;
    goes = λ A B ms T.
        O.goes A (record { to = to.spot.cell; cost = total (price_of F.config m (class to.spot.cell)) }) (due_of S ms) B.cell-is refl
        (ap (λ (d : ℕ). d + total (price_of F.config m (class to.spot.cell))) B.cost-is ∙ sym P.costs)
        (ap (λ (g : Graph). g.estimate to.spot.cell) B.graph_is ∙ rw (P.there.is, F.fits.goal-placed.is) refl)
        (ap (λ (g : Graph). g.places) B.graph_is)
        (rw (moves_in F.room F.config class from.spot.cell m ms to.spot.cell P.leads P.enterable) at T);
  }

-- ---- several moves

readied-more : {v w : Width} (a b : ℕ) (r : Tried) (t : Work) → v ≡ w → a ≤ b → Readied v a r t → Readied w b r t
readied-more a b (Ok x) t e h d = (d.0, omega (arith, d.1), d.2 ∙ e)
readied-more a b (Err x) t e h d = tt

module _ {S : Setting} {s : Work} where
  pub tried-none : {x : Unit {0}} → HeapReady s → MovesCame S [] s (Ok x) s
  tried-none ready = record { readied = (ready, omega arith, refl); goes = λ A B ms T. T }

  module _ {a : List Move} {t : Work} (b : List Move) where
    -- all went on, and then some more were tried
    pub tried_then : {x : Unit {0}} → MovesCame S a s (Ok x) t → {r : Tried} {u : Work} → MovesCame S b t r u → MovesCame S (a ++ b) s r u
    tried_then T {r} {u} U = record {
      readied = readied-more _ _ r u T.readied.2 (omega (arith, T.readied.1, length-append a b)) U.readied;
      goes = λ A B ms D. U.goes A B ms (T.goes A B (b ++ ms) (rw (append_assoc a b ms) at D));
    }

    -- the queue was full: what was still to be tried changes nothing
    pub tried-full : {e d : QueueFull} → MovesCame S a s (Err e) t → MovesCame S (a ++ b) s (Err d) t
    tried-full T = record { readied = tt; goes = λ A B ms D. T.goes A B (b ++ ms) (rw (append_assoc a b ms) at D) }

-- ---- the price, as the code puts it together

module _ (C : RouterConfig) (m : Move) (class : ℕ) where
  pub price-flat : m.y ≡ 1 → C.horizontal.0 ≡ (price_of C m class).step.0
  unfolding price_of
  price-flat e = rw (eq-eqb m.y 1 e)

  pub price_stair : m.y ≢ 1 → C.stair.0 ≡ (price_of C m class).step.0
  unfolding price_of
  price_stair e = rw (ne_eqb m.y 1 e)

  -- the step's amount does not look at the class
  put_together : {p : Price} → p.step.0 ≡ (price_of C m 0).step.0 → p.support.0 ≡ (price_of C m class).support.0 → p ≡ price_of C m class
  unfolding price_of
  put_together s t = λ i. record { step = record { 0 = s i }; support = record { 0 = t i } }

  pub price-laid : {step : Cost} → class ≡ 2 → step.0 ≡ (price_of C m 0).step.0 → record { step = step; support = C.support } ≡ price_of C m class
  unfolding price_of
  price-laid e s = put_together s (rw (eq-eqb class 2 e))

  pub price-bare : {step : Cost} → class ≢ 2 → step.0 ≡ (price_of C m 0).step.0 → record { step = step; support = record { 0 = 0 } } ≡ price_of C m class
  unfolding price_of
  price-bare e s = put_together s (rw (ne_eqb class 2 e))
