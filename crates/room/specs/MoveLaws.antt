-- Laws of the moves: a neighbour is inside exactly when its position is, moves are symmetric, one move leads between two positions that are a step
-- apart, a facing's flat move is one of them, and a flat step lowers a distance by at most 1, a stair by at most 2.
use Rattle.std.specs.Prelude.{◌≡◌, refl, Bool, true, false, ◌&&◌, List, [], ◌∷◌, ℕ, zero, suc, ◌+◌, ◌-◌, ◌≤◌, ◌<◌, leb, eqb, Some, None}
use Rattle.std.proofs.Common.{sym, ap, ◌∙◌, inl, inr, sub-add_cancel, arith, eqb-true, le-leb, eq-eqb}
use Rattle.basics.specs.Tests.{either, ask, and_both, passed, never}
use Rattle.basics.specs.Lists.{In, every, any, every_in, in_at}
use Rattle.room.specs.declared.Room.{Room}
use Rattle.room.specs.declared.Pos.{Pos}
use Rattle.room.specs.declared.Move.{Move}
use Rattle.room.specs.Room.{Good, Within, by, volume, cell_of, pos_of, moves, move_between, move_at, flat, between, stays, shifted, neighbour_at, neighbour, apart, distance_at, distance}
use Rattle.room.specs.Units.{north, east, south, facing_horizontal, facing_move, ahead}
use Rattle.room.specs.RoomLaws.{cell_in, cell_pos, pos_cell, pos_in}

-- ---- a neighbour is inside exactly when its position is

-- q is where the move m leads from p
pub record Moved (p : Pos) (m : Move) (q : Pos) : Type 0 where
  pub x_by : q.x + 1 ≡ p.x + m.x
  pub y_by : q.y + 1 ≡ p.y + m.y
  pub z_by : q.z + 1 ≡ p.z + m.z

pub one_less_in : {a side : ℕ} → 1 ≤ a → a ≤ side → a - 1 < side
one_less_in h k = omega arith

reached : (R : Room) (p : Pos) (m : Move) → stays R p m ≡ true → Moved p m (shifted p m) × Within R (shifted p m)
unfolding stays between
reached R p m e =
    let a : 1 ≤ p.x + m.x = search passed in
    let b : p.x + m.x ≤ R.wide = search passed in
    let c : 1 ≤ p.y + m.y = search passed in
    let d : p.y + m.y ≤ R.high = search passed in
    let f : 1 ≤ p.z + m.z = search passed in
    let g : p.z + m.z ≤ R.deep = search passed in (
      record { x_by = sub-add_cancel a; y_by = sub-add_cancel c; z_by = sub-add_cancel f },
      record { x_in = one_less_in a b; y_in = one_less_in c d; z_in = one_less_in f g },
    )

stays_by : (R : Room) (p : Pos) (m : Move) (q : Pos) → Moved p m q → Within R q → stays R p m ≡ true
unfolding stays between
stays_by R p m q v w = and_both (one v.x_by w.x_in) (and_both (one v.y_by w.y_in) (one v.z_by w.z_in))
  where
    one : {a b side : ℕ} → b + 1 ≡ a → b < side → between 1 a side ≡ true
    one {a} {b} {side} e h = and_both (le-leb 1 a (omega arith)) (le-leb a side (omega arith))

-- a move leads to one position only
moved-one : (p : Pos) (m : Move) (q r : Pos) → Moved p m q → Moved p m r → q ≡ r
moved-one p m q r v w =
    let a : q.x ≡ r.x = omega (arith, v.x_by, w.x_by) in
    let b : q.y ≡ r.y = omega (arith, v.y_by, w.y_by) in
    let c : q.z ≡ r.z = omega (arith, v.z_by, w.z_by) in
    λ i. record { x = a i; y = b i; z = c i }

-- what it means that the move m leads from cell n to cell v
pub record Leads (R : Room) (n : ℕ) (m : Move) (v : ℕ) : Type 0 where
  pub inside : v < volume R
  pub there : Within R (pos_of R v)
  pub moved : Moved (pos_of R n) m (pos_of R v)

pub leads : (R : Room) (n : ℕ) (m : Move) (v : ℕ) → neighbour R n m ≡ Some v → Leads R n m v
unfolding neighbour
leads R n m v e = ask (stays R (pos_of R n) m) (λ t. yes_in t (rw t at e)) (λ f. no_out (rw f at e))
  where
    yes_in : stays R (pos_of R n) m ≡ true → Some (cell_of R (shifted (pos_of R n) m)) ≡ Some v → Leads R n m v
    yes_in t q =
        let r = reached R (pos_of R n) m t in
        let c : cell_of R (shifted (pos_of R n) m) ≡ v = cc in
        let b : pos_of R v ≡ shifted (pos_of R n) m = ap (pos_of R) (sym c) ∙ pos_cell R (shifted (pos_of R n) m) r.1 in
        record { inside = rw c at (cell_in R (shifted (pos_of R n) m) r.1); there = rw b r.1; moved = rw b r.0 }

    no_out : None ≡ Some v → Leads R n m v
    no_out q = never (cc)

pub leads-to : (R : Room) (n : ℕ) (m : Move) (q : Pos) → Moved (pos_of R n) m q → Within R q → neighbour R n m ≡ Some (cell_of R q)
unfolding neighbour
leads-to R n m q v w =
    let t = stays_by R (pos_of R n) m q v w in
    let e = moved-one (pos_of R n) m _ q (reached R (pos_of R n) m t).0 v in
    rw (t, e)

-- the move leads to a cell of the room where it does so by positions
pub leads-cell : (R : Room) → Good R → (n : ℕ) (m : Move) (v : ℕ) → v < volume R → Moved (pos_of R n) m (pos_of R v) → neighbour R n m ≡ Some v
leads-cell R G n m v h moved = leads-to R n m (pos_of R v) moved (pos_in R G v h) ∙ ap Some (cell_pos R v)

pub not_stays : (R : Room) (n : ℕ) (m : Move) → stays R (pos_of R n) m ≡ false → neighbour R n m ≡ None
unfolding neighbour
not_stays R n m e = rw e

-- the tests one by one, as the code makes them
module _ (R : Room) (p : Pos) (m : Move) where
  pub out_x : between 1 (p.x + m.x) R.wide ≡ false → None ≡ neighbour_at R p m
  unfolding stays
  out_x e = rw e

  module _ (x_in : between 1 (p.x + m.x) R.wide ≡ true) where
    pub out_y : between 1 (p.y + m.y) R.high ≡ false → None ≡ neighbour_at R p m
    unfolding stays
    out_y e = rw (x_in, e)

    module _ (y_in : between 1 (p.y + m.y) R.high ≡ true) where
      pub out_z : between 1 (p.z + m.z) R.deep ≡ false → None ≡ neighbour_at R p m
      unfolding stays
      out_z e = rw (x_in, y_in, e)

      module _ (z_in : between 1 (p.z + m.z) R.deep ≡ true) where
        all_in : stays R p m ≡ true
        unfolding stays
        all_in = rw (x_in, y_in, z_in)

        pub shifted_in : Within R (shifted p m)
        shifted_in = (reached R p m all_in).1

        pub in_all : (v : ℕ) → v ≡ cell_of R (shifted p m) → Some v ≡ neighbour_at R p m
        in_all v f = rw (f, all_in)

-- ---- moves are symmetric

abbrev pub opposite : Move → Move
opposite m = by (2 - m.x) (2 - m.y) (2 - m.z)

abbrev pub same_move : Move → Move → Bool
same_move a b = eqb a.x b.x && (eqb a.y b.y && eqb a.z b.z)

abbrev among : Move → List Move → Bool
among m ks = any (same_move m) ks

pub same_move_lem : (a b : Move) → same_move a b ≡ true → a ≡ b
same_move_lem a b e =
    let p : a.x ≡ b.x = search passed in
    let q : a.y ≡ b.y = search passed in
    let r : a.z ≡ b.z = search passed in
    λ i. record { x = p i; y = q i; z = r i }

among-is : (m : Move) (ks : List Move) → among m ks ≡ true → In m ks
among-is m [] e = never (cc)
among-is m (k ∷ ks) e = ask (same_move m k) (λ t. inl (same_move_lem m k t)) (λ f. inr (among-is m ks (rw f at e)))

pub opposite_in : (m : Move) → In m moves → In (opposite m) moves
unfolding moves
opposite_in m i = among-is (opposite m) moves (every_in (λ k. among (opposite k) moves) moves refl m i)

-- each part of a move is at most 2; one of x and z changes, by 1, and y by at most 1
abbrev parts_small : Move → Bool
parts_small m = leb m.x 2 && (leb m.y 2 && leb m.z 2)

abbrev one_aside : Move → Bool
one_aside m = eqb (apart m.x 1 + apart m.z 1) 1

pub record Small (m : Move) : Type 0 where
  pub x_small : m.x ≤ 2
  pub y_small : m.y ≤ 2
  pub z_small : m.z ≤ 2
  pub aside : apart m.x 1 + apart m.z 1 ≡ 1

pub small : (m : Move) → In m moves → Small m
unfolding moves
small m i =
    let a = every_in parts_small moves refl m i in
    record {
      x_small = search passed;
      y_small = search passed;
      z_small = search passed;
      aside = eqb-true _ _ (every_in one_aside moves refl m i);
    }

-- each move of such parts is one of the twelve
abbrev parts : List ℕ
parts = 0 ∷ 1 ∷ 2 ∷ []

part : (a : ℕ) → a ≤ 2 → In a parts
part zero h = inl refl
part (suc zero) h = inr (inl refl)
part (suc (suc zero)) h = inr (inr (inl refl))
part (suc (suc (suc a))) h = absurd (omega arith)

abbrev listed_if : ℕ → ℕ → ℕ → Bool
listed_if dx dy dz = either (one_aside (by dx dy dz)) (among (by dx dy dz) moves) true

small-listed : (m : Move) → Small m → In m moves
unfolding moves
small-listed m s =
    let x = every_in (λ dx. every (λ dy. every (listed_if dx dy) parts) parts) parts refl m.x (part m.x s.x_small) in
    let y = every_in (λ dy. every (listed_if m.x dy) parts) parts x m.y (part m.y s.y_small) in
    let z = every_in (listed_if m.x m.y) parts y m.z (part m.z s.z_small) in
    among-is m moves (rw (eq-eqb _ 1 s.aside) at z)

pub move-small : (k : ℕ) → k < 12 → Small (move_at k)
unfolding moves
move-small k h = small (move_at k) (in_at moves k (by 0 0 0) h)

moved_back : (p : Pos) (m : Move) (q : Pos) → Small m → Moved p m q → Moved q (opposite m) p
moved_back p m q s v = record {
  x_by = omega (arith, s.x_small, v.x_by);
  y_by = omega (arith, s.y_small, v.y_by);
  z_by = omega (arith, s.z_small, v.z_by);
}

pub symmetric : (R : Room) → Good R → (n : ℕ) (m : Move) (v : ℕ) → n < volume R → In m moves → neighbour R n m ≡ Some v → neighbour R v (opposite m) ≡ Some n
symmetric R G n m v h i e = leads-cell R G v (opposite m) n h (moved_back (pos_of R n) m (pos_of R v) (small m i) (leads R n m v e).moved)

-- ---- the move between two positions

-- no other move leads from one to the other
pub between_is : (p q : Pos) (m : Move) → Moved p m q → move_between p q ≡ m
between_is p q m v =
    let a : q.x + 1 - p.x ≡ m.x = omega (arith, v.x_by) in
    let b : q.y + 1 - p.y ≡ m.y = omega (arith, v.y_by) in
    let c : q.z + 1 - p.z ≡ m.z = omega (arith, v.z_by) in
    λ i. record { x = a i; y = b i; z = c i }

-- how far a move leads in one direction, from a to t by o
pub apart_by : (a o t : ℕ) → t + 1 ≡ a + o → apart a t ≡ apart o 1
apart_by a o t e = omega arith

-- where they are a step apart, it leads there, and is one of the twelve
module _ (p q : Pos) (aside : apart p.x q.x + apart p.z q.z ≡ 1) (rise : apart p.y q.y ≤ 1) where
  pub between-moved : Moved p (move_between p q) q
  between-moved = record { x_by = omega (arith, aside); y_by = omega (arith, rise); z_by = omega (arith, aside) }

  between-small : Small (move_between p q)
  between-small = record {
    x_small = omega (arith, aside);
    y_small = omega (arith, rise);
    z_small = omega (arith, aside);
    aside = rw (← apart_by _ _ _ between-moved.x_by, ← apart_by _ _ _ between-moved.z_by) aside;
  }

  pub between-listed : In (move_between p q) moves
  between-listed = small-listed (move_between p q) between-small

-- ---- the flat move of a facing

pub facing_in : (facing : ℕ) → In (facing_move facing) moves
unfolding facing_move moves
facing_in facing =
    ask (eqb facing north) (λ e. rw e (among-is (by 1 1 0) moves refl))
    (λ n. ask (eqb facing east) (λ e. rw (n, e) (among-is (by 2 1 1) moves refl))
    (λ m. ask (eqb facing south) (λ e. rw (n, m, e) (among-is (by 1 1 2) moves refl)) (λ k. rw (n, m, k) (among-is (by 0 1 1) moves refl))))

pub ahead_in : (R : Room) (n facing v : ℕ) → ahead R n facing ≡ Some v → v < volume R
unfolding ahead
ahead_in R n facing v e =
    ask (facing_horizontal facing) (λ t. (leads R n (facing_move facing) v (rw t at e)).inside) (λ f. never (cc (rw f at e)))

-- ---- the distance falls by at most 1 on a flat step and 2 on a stair

unfoldable pub most : Move → ℕ
most m = either (flat m) 1 2

-- in one direction
shift : (a o g t : ℕ) → t + 1 ≡ a + o → apart a g ≤ apart t g + apart o 1
shift a o g t e = omega arith

shifts : (p : Pos) (m : Move) (q g : Pos) → Moved p m q
    → distance_at p g ≤ distance_at q g + (apart m.x 1 + apart m.y 1 + apart m.z 1)
shifts p m q g v =
    omega (
      arith,
      shift p.x m.x g.x q.x v.x_by,
      shift p.y m.y g.y q.y v.y_by,
      shift p.z m.z g.z q.z v.z_by,
    )

change : (m : Move) → Small m → apart m.x 1 + apart m.y 1 + apart m.z 1 ≤ most m
unfolding most
change m s =
    ask (flat m) (λ t. rw t (omega (arith, s.aside, eqb-true m.y 1 t))) (λ f. rw f (omega (arith, s.aside, s.y_small)))

pub nearer : (R : Room) (n : ℕ) (m : Move) (v g : ℕ) → In m moves → neighbour R n m ≡ Some v → distance R n g ≤ distance R v g + most m
unfolding distance
nearer R n m v g i e = omega (arith, shifts (pos_of R n) m (pos_of R v) (pos_of R g) (leads R n m v e).moved, change m (small m i))
