-- Laws of the room: what its tests say, that numbering is a bijection between the positions inside and the numbers below V that keeps the order of
-- (x, y, z), and that the cells right above and beneath a cell are in the room.
use Rattle.std.specs.Prelude.{◌≡◌, refl, ◌⊎◌, Bool, true, false, ℕ, ◌+◌, ◌-◌, ◌*◌, ◌/◌, ◌≤◌, ◌<◌, leb, ltb, Some}
use Rattle.std.proofs.Common.{ap, inl, inr, add_assoc, add-mul, div-add-mod', mod-lt, div-lt_iff_lt-mul, arith, ltb-true}
use Rattle.std.proofs.Math.Bool.{and-false}
use Rattle.std.proofs.Math.Nat.{mul-le-mul_left, mul-le-mul_right, mod-le, div-mul-le_self}
use Rattle.std.proofs.Math.Arith.{digits_lt, digits_div, digits_mod}
use Rattle.std.proofs.lemmas.Bool.{lt-leb}
use Rattle.basics.specs.Tests.{passed, never}
use Rattle.room.specs.declared.Room.{Room}
use Rattle.room.specs.declared.Pos.{Pos}
use Rattle.room.specs.Room.{Good, Within, SmallPos, max_volume, volume, between, sides_good, at, cell_of, pos_of, within, in_or_out, beneath, above}

-- a room that passes the test of number 2 is good
pub good : (R : Room) → sides_good R ≡ true → Good R
unfolding sides_good between
good R e = record {
  x_some = search passed;
  x_most = search passed;
  y_some = search passed;
  y_most = search passed;
  z_some = search passed;
  z_most = search passed;
  few = search passed;
}

pub within-is : (R : Room) (p : Pos) → within R p ≡ true → Within R p
unfolding within
within-is R p e = record { x_in = search passed; y_in = search passed; z_in = search passed }

-- ---- numbering is a bijection

pub cell_in : (R : Room) (p : Pos) → Within R p → cell_of R p < volume R
unfolding cell_of
cell_in R p w = digits_lt (digits_lt w.x_in w.y_in) w.z_in

pub cell_pos : (R : Room) (n : ℕ) → cell_of R (pos_of R n) ≡ n
unfolding cell_of pos_of
cell_pos R n = rw (div-add-mod' (n / R.deep) R.high, div-add-mod' n R.deep)

module _ (R : Room) (p : Pos) (w : Within R p) where
  pos_cell_x : (pos_of R (cell_of R p)).x ≡ p.x
  unfolding pos_of cell_of
  pos_cell_x = rw (digits_div (p.x * R.high + p.y) w.z_in, digits_div p.x w.y_in)

  pub pos_cell_y : (pos_of R (cell_of R p)).y ≡ p.y
  unfolding pos_of cell_of
  pos_cell_y = rw (digits_div (p.x * R.high + p.y) w.z_in, digits_mod p.x w.y_in)

  pos_cell_z : (pos_of R (cell_of R p)).z ≡ p.z
  unfolding pos_of cell_of
  pos_cell_z = rw (digits_mod (p.x * R.high + p.y) w.z_in)

  pub pos_cell : pos_of R (cell_of R p) ≡ p
  pos_cell = λ i. record { x = pos_cell_x i; y = pos_cell_y i; z = pos_cell_z i }

pub pos_in : (R : Room) → Good R → (n : ℕ) → n < volume R → Within R (pos_of R n)
unfolding pos_of
pos_in R G n h = record {
  x_in = (div-lt_iff_lt-mul G.y_some).1 ((div-lt_iff_lt-mul G.z_some).1 h);
  y_in = mod-lt _ G.y_some;
  z_in = mod-lt _ G.z_some;
}

-- ---- number order is (x, y, z) order

-- p comes before q: x, then y, then z decides
abbrev pub Before : Pos → Pos → Type 0
Before p q = (p.x < q.x) ⊎ ((p.x ≡ q.x) × ((p.y < q.y) ⊎ ((p.y ≡ q.y) × (p.z < q.z))))

-- the higher digit decides
digits_more : {a b r : ℕ} (s c : ℕ) → r < c → a < b → a * c + r < b * c + s
digits_more s c h l = omega (arith, digits_lt l h)

pub order : (R : Room) (p q : Pos) → Within R p → Within R q → Before p q → cell_of R p < cell_of R q
unfolding cell_of
order R p q v w (inl h) = digits_more q.z R.deep v.z_in (digits_more q.y R.high v.y_in h)
order R p q v w (inr b) = go b.1
  where
    go : (p.y < q.y) ⊎ ((p.y ≡ q.y) × (p.z < q.z)) → (p.x * R.high + p.y) * R.deep + p.z < (q.x * R.high + q.y) * R.deep + q.z
    go (inl h) = digits_more q.z R.deep v.z_in (rw b.0 (omega arith))
    go (inr e) = rw (b.0, e.0) (omega (arith, e.1))

-- ---- the cells right above and beneath a cell

-- a cell is no other
pub same-cell : (u v : ℕ) → Some u ≡ Some v → u ≡ v
same-cell u v e = cc

-- a cell that there is passed the test
pub inside-passed : (b : Bool) (n v : ℕ) → in_or_out b n ≡ Some v → (n ≡ v) × (b ≡ true)
inside-passed true n v e = (cc, refl)
inside-passed false n v e = never (cc)

-- the position right above one
abbrev pub up : Pos → Pos
up p = at p.x (p.y + 1) p.z

pub up-number : (R : Room) (p : Pos) → cell_of R (up p) ≡ cell_of R p + R.deep
unfolding cell_of
up-number R p = omega (arith, ap (λ (k : ℕ). k * R.deep) (add_assoc (p.x * R.high) p.y 1), add-mul (p.x * R.high + p.y) 1 R.deep)

pub up-within : (R : Room) (p : Pos) → Within R p → ltb (p.y + 1) R.high ≡ true → Within R (up p)
up-within R p w t = record { x_in = w.x_in; y_in = ltb-true _ _ t; z_in = w.z_in }

pub above_in : (R : Room) → Good R → (n v : ℕ) → n < volume R → above R n ≡ Some v → v < volume R
unfolding above
above_in R G n v h e =
    let q = inside-passed (ltb ((pos_of R n).y + 1) R.high) (n + R.deep) v e in
    omega (arith, q.0, up-number R (pos_of R n), cell_pos R n, cell_in R _ (up-within R (pos_of R n) (pos_in R G n h) q.1))

-- the cell beneath a cell of the room is in the room
pub beneath_in : (R : Room) (n b : ℕ) → n < volume R → beneath R n ≡ Some b → b < volume R
unfolding beneath
beneath_in R n b h e = omega (arith, (inside-passed (leb 1 (pos_of R n).y) (n - R.deep) b e).0)

-- ---- what `between` says

pub between-below : (low a high : ℕ) → a < low → between low a high ≡ false
unfolding between
between-below low a high h = rw (lt-leb low a h)

pub between-above : (low a high : ℕ) → high < a → between low a high ≡ false
unfolding between
between-above low a high h = rw (lt-leb a high h, and-false (leb low a))

pub between-low : (low a high : ℕ) → between low a high ≡ true → low ≤ a
unfolding between
between-low low a high e = search passed

pub between-high : (low a high : ℕ) → between low a high ≡ true → a ≤ high
unfolding between
between-high low a high e = search passed

-- ---- what the code computes on the way is small

module _ (R : Room) (G : Good R) where
  pub base-few : R.wide * R.high ≤ max_volume
  base-few = omega (arith, G.few, mul-le-mul_left (R.wide * R.high) G.z_some)

  pub row-few : (p : Pos) → Within R p → p.x * R.high + p.y < max_volume
  unfolding cell_of
  row-few p w = omega (arith, G.few, cell_in R p w, mul-le-mul_left (p.x * R.high + p.y) G.z_some)

  -- a cell that is not of the lowest level has one beneath it
  pub deep_enough : (n : ℕ) → 1 ≤ (pos_of R n).y → R.deep ≤ n
  unfolding pos_of
  deep_enough n h =
      let q : 1 ≤ n / R.deep = omega (arith, mod-le (n / R.deep) R.high) in
      omega (arith, mul-le-mul_right R.deep q, div-mul-le_self n R.deep)

  -- each part of a cell's position is below a side
  pub small_pos : (n : ℕ) → n < volume R → (p : Pos) → p ≡ pos_of R n → SmallPos p
  small_pos n h p e =
      let w : Within R p = rw e (pos_in R G n h) in
      record { x_small = omega (arith, w.x_in, G.x_most); y_small = omega (arith, w.y_in, G.y_most); z_small = omega (arith, w.z_in, G.z_most) }
