-- The loop that fills in the classes: which cells have one beneath them is told by counting the cells that share their x.
use Rattle.std.specs.Prelude.{◌≡◌, ◌⊎◌, ◌≢◌, false, List, ℕ, suc, ◌+◌, ◌-◌, ◌*◌, ◌/◌, ◌%◌, ◌≤◌, ◌<◌, ltb, length, get_or, set}
use Rattle.std.proofs.Common.{sym, ap, ◌∙◌, inl, inr, div-add-mod', suc-mul, zero-mul, mul-le-mul, length-set}
use Rattle.std.proofs.Math.Nat.{mod-lt, mul-le-mul_right, mod-le, zero-mod}
use native.Mathlib.Omega.{arith}
use Rattle.std.proofs.Math.Arith.{digits_mod, mod-mul}
use borrow.Author.Tests.{lt-ltb, le-ltb, le-leb, lt-leb}
use Rattle.basics.specs.Tests.{either, ask_less}
use Rattle.basics.specs.Lists.{front-written}
use Rattle.room.specs.declared.Room.{Room}
use Rattle.room.specs.Room.{Good, volume, pos_of, beneath}
use Rattle.room.specs.Units.{solid}
use Rattle.room_search.specs.Routing.{kind_at, class_for, class_at}
use Rattle.room_search.specs.Classes.{Plain}

-- one more, counted around
around_next : (v area : ℕ) → 0 < area → v % area + 1 < area → (v + 1) % area ≡ v % area + 1
around_next v area p h =
    let e : v + 1 ≡ v / area * area + (v % area + 1) = omega (arith, div-add-mod' v area) in
    ap (λ (n : ℕ). n % area) e ∙ digits_mod (v / area) h

around_back : (v area : ℕ) → 0 < area → v % area + 1 ≡ area → (v + 1) % area ≡ 0
around_back v area p h =
    let e : v + 1 ≡ suc (v / area) * area + 0 = omega (arith, div-add-mod' v area, suc-mul (v / area) area) in
    ap (λ (n : ℕ). n % area) e ∙ digits_mod (suc (v / area)) p

module _ (R : Room) (G : Good R) (v : ℕ) where
  floor_in : v % (R.high * R.deep) ≡ (pos_of R v).y * R.deep + v % R.deep
  unfolding pos_of
  floor_in = mod-mul v G.y_some G.z_some

  -- the kind beneath, as it is counted out
  below-is : (kinds : List ℕ) → either (ltb (v % (R.high * R.deep)) R.deep) solid (get_or kinds (v - R.deep) 0) ≡ kind_at kinds (beneath R v)
  unfolding beneath
  below-is kinds =
      ask_less 0 (pos_of R v).y
      (λ y.
      let k : R.deep ≤ v % (R.high * R.deep) = omega (arith, floor_in, mul-le-mul_right R.deep y) in
      rw (le-ltb _ _ k, le-leb 1 (pos_of R v).y y))
      (λ z.
      let e : (pos_of R v).y ≡ 0 = omega arith in
      let k : v % (R.high * R.deep) < R.deep = rw (floor_in, e, zero-mul) (omega (arith, mod-lt v G.z_some)) in
      rw (lt-ltb _ _ k, lt-leb 1 (pos_of R v).y (omega arith)))

area_some : (R : Room) → Good R → 0 < R.high * R.deep
area_some R G = mul-le-mul G.y_some G.z_some

-- the first v cells have their class
pub record Filling (R : Room) (kinds : List ℕ) (v : ℕ) (layer : ℕ) (classes : List ℕ) : Type 0 where
  pub within : v ≤ volume R
  pub long : length classes ≡ volume R
  pub counted : layer ≡ v % (R.high * R.deep)
  pub each : (k : ℕ) → k < v → get_or classes k 0 ≡ class_at false R kinds k

module _ {R : Room} {kinds : List ℕ} where
  pub filling-none : (classes : List ℕ) → length classes ≡ volume R → Filling R kinds 0 0 classes
  filling-none classes l = record { within = omega arith; long = l; counted = sym (zero-mod (R.high * R.deep)); each = λ k h. absurd (omega arith) }

  module _ (G : Good R) {v layer : ℕ} {classes : List ℕ} (I : Filling R kinds v layer classes) (h : v < volume R) where
    pub layer_le : layer ≤ v
    layer_le = omega (arith, I.counted, mod-le v (R.high * R.deep))

    layer_lt : layer < R.high * R.deep
    layer_lt = omega (arith, I.counted, mod-lt v (area_some R G))

    pub filling-next : (class : ℕ) → class ≡ class_for false (get_or kinds v 0) (either (ltb layer R.deep) solid (get_or kinds (v - R.deep) 0))
        → (next : ℕ) → (((layer + 1 ≡ R.high * R.deep) × (next ≡ 0)) ⊎ ((layer + 1 ≢ R.high * R.deep) × (next ≡ layer + 1)))
        → Filling R kinds (v + 1) next (set classes v class)
    filling-next class e next w = record {
      within = omega arith;
      long = length-set classes v class ∙ I.long;
      counted = go w;
      each = front-written (class_at false R kinds) classes (omega (arith, I.long))
          (e ∙ ap (class_for false (get_or kinds v 0)) (ap (λ (n : ℕ). either (ltb n R.deep) solid (get_or kinds (v - R.deep) 0)) I.counted ∙ below-is R G v kinds))
          I.each;
    }
      where
        go : ((layer + 1 ≡ R.high * R.deep) × (next ≡ 0)) ⊎ ((layer + 1 ≢ R.high * R.deep) × (next ≡ layer + 1)) → next ≡ (v + 1) % (R.high * R.deep)
        go (inl q) = q.1 ∙ sym (around_back v (R.high * R.deep) (area_some R G) (omega (arith, q.0, I.counted)))
        go (inr q) = q.1 ∙ ap (λ (n : ℕ). n + 1) I.counted ∙ sym (around_next v (R.high * R.deep) (area_some R G) (omega (arith, q.0, I.counted, layer_lt)))

  pub filling-all : {v layer : ℕ} {classes : List ℕ} → Filling R kinds v layer classes → volume R ≤ v → Plain R kinds classes
  filling-all I h = record { long = I.long; each = λ k l. I.each k (omega arith) }
