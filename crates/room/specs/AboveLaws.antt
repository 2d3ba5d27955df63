-- The cell right above and the cell right beneath are each other's inverse.
use Rattle.std.specs.Prelude.{◌≡◌, ℕ, ◌+◌, ◌-◌, ◌≤◌, ◌<◌, leb, ltb, Some}
use Rattle.std.proofs.Math.Path.{sym}
use Rattle.std.proofs.Common.{◌∙◌}
use native.Mathlib.Omega.{arith}
use borrow.Author.Tests.{leb-true, le-leb, lt-ltb}
use Rattle.room.specs.declared.Room.{Room}
use Rattle.room.specs.declared.Pos.{Pos}
use Rattle.room.specs.Room.{Good, Within, volume, at, cell_of, pos_of, beneath, above}
use Rattle.room.specs.RoomLaws.{cell_pos, pos_cell_y, pos_in, deep_enough, inside-passed, up, up-number, up-within}

module _ (R : Room) (G : Good R) where
  pub above-beneath : (n v : ℕ) → n < volume R → above R n ≡ Some v → beneath R v ≡ Some n
  unfolding above beneath
  above-beneath n v h e =
      let q = inside-passed (ltb ((pos_of R n).y + 1) R.high) (n + R.deep) v e in
      let number : cell_of R (up (pos_of R n)) ≡ v = up-number R (pos_of R n) ∙ rw (cell_pos R n) q.0 in
      let level : (pos_of R v).y ≡ (pos_of R n).y + 1 = rw number at (pos_cell_y R _ (up-within R (pos_of R n) (pos_in R G n h) q.1)) in
      let back : v - R.deep ≡ n = omega (arith, q.0) in
      rw (le-leb 1 (pos_of R v).y (omega arith), back)

  pub beneath-above : (v n : ℕ) → v < volume R → beneath R v ≡ Some n → above R n ≡ Some v
  unfolding above beneath
  beneath-above v n h e =
      let q = inside-passed (leb 1 (pos_of R v).y) (v - R.deep) n e in
      let w = pos_in R G v h in
      let y : 1 ≤ (pos_of R v).y = leb-true 1 (pos_of R v).y q.1 in
      let low : Pos = at (pos_of R v).x ((pos_of R v).y - 1) (pos_of R v).z in
      let down : Within R low = record { x_in = w.x_in; y_in = omega (arith, w.y_in); z_in = w.z_in } in
      let enough = deep_enough R G v y in
      let one : (pos_of R v).y - 1 + 1 ≡ (pos_of R v).y = omega arith in
      let high : cell_of R low + R.deep ≡ v = sym (up-number R low) ∙ rw one (cell_pos R v) in
      let number : cell_of R low ≡ n = omega (arith, q.0) in
      let level : (pos_of R n).y ≡ (pos_of R v).y - 1 = rw number at (pos_cell_y R low down) in
      let back : n + R.deep ≡ v = omega (arith, q.0) in
      rw (lt-ltb ((pos_of R n).y + 1) R.high (omega (arith, w.y_in)), back)

-- the cell beneath has a lower number
pub beneath_lt : (R : Room) → Good R → (v n : ℕ) → beneath R v ≡ Some n → n < v
unfolding beneath
beneath_lt R G v n e =
    let q = inside-passed (leb 1 (pos_of R v).y) (v - R.deep) n e in
    omega (arith, q.0, G.z_some, deep_enough R G v (leb-true 1 (pos_of R v).y q.1))
