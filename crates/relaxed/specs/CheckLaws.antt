-- Laws of the check: move after move, cell after cell.
use Rattle.std.specs.Prelude.{◌≡◌, ◌≢◌, Bool, true, false, List, [], ◌∷◌, ℕ, suc, ◌+◌, ◌≤◌, ◌<◌, leb, length, get_or, Option, Some, None}
use Rattle.std.proofs.Common.{sym, inl, inr, arith, mul-le-mul_left, leb-true, eq-eqb, ne_eqb}
use Rattle.basics.specs.Tests.{ask_same, never}
use Rattle.basics.specs.Lists.{In}
use Rattle.room.specs.declared.Room.{Room}
use Rattle.room.specs.declared.Move.{Move}
use Rattle.room.specs.declared.Pos.{Pos}
use Rattle.room.specs.declared.RouterConfig.{RouterConfig}
use Rattle.room.specs.RoomLaws.{pos_cell}
use Rattle.room.specs.MoveLaws.{leads}
use Rattle.room.specs.Room.{Within, volume, by, cell_of, pos_of, moves, move_at, neighbour, neighbour_at}
use Rattle.room.specs.Units.{max_nodes, dearest, GoodConfig}
use Rattle.room_search.specs.Routing.{price_of}
use Rattle.relaxed.specs.Labels.{MoveTold, MovesAgree, CellTold, CellsAgree, LabelsTold}

-- ---- what a step costs

module _ (C : RouterConfig) (m : Move) where
  pub step-flat : m.y ≡ 1 → C.horizontal.0 ≡ (price_of C m 0).step.0
  unfolding price_of
  step-flat e = rw (eq-eqb m.y 1 e)

  pub step_stair : m.y ≢ 1 → C.stair.0 ≡ (price_of C m 0).step.0
  unfolding price_of
  step_stair e = rw (ne_eqb m.y 1 e)

-- ---- the moves of one cell

-- the cell that a move leads to is one of the room
pub leads-inside : (R : Room) (at : Pos) (m : Move) {v : ℕ} → Within R at → neighbour_at R at m ≡ Some v → v < volume R
unfolding neighbour
leads-inside R at m {v} w e = (leads R (cell_of R at) m v (rw (pos_cell R at w) e)).inside

-- a move leads to one cell
same_place_lem : {place : Option ℕ} {a b : ℕ} → place ≡ Some a → place ≡ Some b → a ≡ b
same_place_lem p q = cc

module _ {R : Room} {C : RouterConfig} {bytes labels : List ℕ} {at : Pos} {label : ℕ} {m : Move} where
  pub move-out : neighbour_at R at m ≡ None → (r : Bool) → MoveTold R C bytes labels at label m r
  move-out e r = record { told = λ t v q. never (cc) }

  module _ {cell : ℕ} (leads : neighbour_at R at m ≡ Some cell) where
    pub move-shut : get_or bytes cell 0 ≡ 0 → (r : Bool) → MoveTold R C bytes labels at label m r
    move-shut z r = record { told = λ t v q n. absurd (n (rw (same_place_lem leads q) at z)) }

    pub move-none : MoveTold R C bytes labels at label m false
    move-none = record { told = λ t. never (cc) }

    pub move_agrees : get_or labels cell 0 ≢ 0 → {other step : ℕ} → other ≡ get_or labels cell 0 → step ≡ (price_of C m 0).step.0
        → MoveTold R C bytes labels at label m (leb other (label + step))
    move_agrees n {other} {step} e f = record {
      told = λ t v q o. rw (← same_place_lem leads q, ← f, ← e) (omega (arith, n, e), leb-true other (label + step) t);
    }

module _ {R : Room} {C : RouterConfig} {bytes labels : List ℕ} {at : Pos} {label k : ℕ} (A : MovesAgree R C bytes labels at label k) where
  pub moves_next : {r : Bool} → MoveTold R C bytes labels at label (move_at k) r → r ≡ true → MovesAgree R C bytes labels at label (k + 1)
  moves_next M e = record {
    agree = λ j h. ask_same j k (λ s. rw s (M.told e)) (λ d. A.agree j (omega (arith, d, h)));
  }

pub moves-none : {R : Room} {C : RouterConfig} {bytes labels : List ℕ} {at : Pos} {label : ℕ} → MovesAgree R C bytes labels at label 0
moves-none = record { agree = λ j h. absurd (omega arith) }

-- a move that is listed is one of the twelve
listed_at : (ms : List Move) (m : Move) → In m ms → (j : ℕ) × (j < length ms) × (get_or ms j (by 0 0 0) ≡ m)
listed_at [] m i = absurd i
listed_at (n ∷ ms) m (inl e) = (0, omega arith, sym e)
listed_at (n ∷ ms) m (inr i) = let later = listed_at ms m i in (suc later.0, omega (arith, later.1), later.2)

module _ {R : Room} {C : RouterConfig} {bytes labels : List ℕ} {u : ℕ} where
  pub cell_unlabelled : get_or labels u 0 ≡ 0 → (r : Bool) → CellTold R C bytes labels u r
  cell_unlabelled z r = record { told = λ t h. absurd (omega arith) }

  pub cell_fails : CellTold R C bytes labels u false
  cell_fails = record { told = λ t. never (cc) }

  pub cell_agrees : {at : Pos} {label k : ℕ} → at ≡ pos_of R u → label ≡ get_or labels u 0 → MovesAgree R C bytes labels at label k → 12 ≤ k → (r : Bool) → CellTold R C bytes labels u r
  unfolding moves neighbour
  cell_agrees {at} {label} p e A h r = record {
    told = λ t l m i v q.
        let which = listed_at moves m i in
        rw (← e, ← which.2) (A.agree which.0 (omega (arith, which.1)) v (rw (p, which.2) q));
  }

-- ---- cell after cell

pub cells-none : {R : Room} {C : RouterConfig} {bytes labels : List ℕ} → CellsAgree R C bytes labels 0
cells-none = record { agree = λ u h. absurd (omega arith) }

module _ {R : Room} {C : RouterConfig} {bytes labels : List ℕ} {n : ℕ} (A : CellsAgree R C bytes labels n) where
  pub cells-next : {r : Bool} → CellTold R C bytes labels n r → r ≡ true → CellsAgree R C bytes labels (n + 1)
  cells-next T e = record { agree = λ u h. ask_same u n (λ s. rw s (T.told e)) (λ d. A.agree u (omega (arith, d, h))) }

  pub cells-all : {start : ℕ} → volume R ≤ n → get_or labels start 0 ≡ 1 → (r : Bool) → LabelsTold R C bytes start labels r
  cells-all h e r = record { told = λ t. record { start_none = e; agree = λ u k. A.agree u (omega (arith, k, h)) } }

pub labels_fail : {R : Room} {C : RouterConfig} {bytes : List ℕ} {start : ℕ} {labels : List ℕ} → LabelsTold R C bytes start labels false
labels_fail = record { told = λ t. never (cc) }

-- ---- the costs that labels are found at

-- supports cost nothing, and the node limit is the highest
pub relaxed_good : {R : Room} {C D : RouterConfig} → GoodConfig R C → D.horizontal.0 ≡ C.horizontal.0 → D.stair.0 ≡ C.stair.0 → D.support.0 ≡ 0 → D.limit.0 ≤ max_nodes
    → GoodConfig R D
unfolding dearest
relaxed_good {R} {C} {D} G h s z l = record {
  ranges = record {
    limit-most = l;
    horizontal-most = rw h G.ranges.horizontal-most;
    stair_most = rw s G.ranges.stair_most;
    support_most = rw z (omega arith);
  };
  product_most =
      let less : dearest D ≤ dearest C = rw (h, s, z) (omega arith) in
      omega (arith, G.product_most, mul-le-mul_left (volume R) less);
}
