-- `width_for` meets its contract: no step is dearer than the three costs together.
use mathlib.Core.Path.{◌≡◌}
use Prim.Native.Nat.{ℕ, ◌+◌, ◌*◌, ◌^◌, ◌≤◌}
use native.Mathlib.Nat.{le_refl, mul-le-mul}
use native.Mathlib.Omega.{arith}
use Rattle.room.specs.declared.Room.{Room}
use Rattle.room.specs.declared.RouterConfig.{RouterConfig}
use Rattle.room.specs.Room.{max_volume, volume}
use Rattle.room.specs.Units.{dearest}
use Rattle.room_search.specs.declared.Width.TheVariants.{One}
use Rattle.room_search.specs.TriedMoves.{WidthFits}
use Rattle.room_search.proofs.waiting.width_for.Goals as goal

three : RouterConfig → ℕ
three C = C.horizontal.0 + C.stair.0 + C.support.0

dearest-three : (C : RouterConfig) → dearest C ≤ three C
unfolding dearest three
dearest-three C = omega arith

fits_one : (R : Room) (C : RouterConfig) (v s most : ℕ) → v ≡ volume R → s ≡ C.horizontal.0 + C.stair.0 + C.support.0 → v * s ≤ most → most + 10000 ≤ 2 ^ 24
    → WidthFits R C One
unfolding three
fits_one R C v s most e f h k = record { keys = λ _. omega (arith, rw (e, f) at h, mul-le-mul (le_refl (volume R)) (dearest-three C)) }

pub overflow_mul-volume : goal.overflow_mul-volume
overflow_mul-volume c =
    let v : c.volume.result ≤ max_volume = omega (arith, c.volume.ensures, c.requires.good.few) in
    let k : c.as_long-sum.result ≤ 3000000 = omega (arith, c.as_long-sum.ensures, c.requires.good_ranges.horizontal-most, c.requires.good_ranges.stair_most, c.requires.good_ranges.support_most) in
    record { fits = omega (arith, mul-le-mul v k) }

pub returns-then-volume-sum-le-MOST_IN_ONE : goal.returns-then-volume-sum-le-MOST_IN_ONE
returns-then-volume-sum-le-MOST_IN_ONE c = fits_one _ _ _ _ _ c.volume.ensures c.as_long-sum.ensures c.if-volume-sum-le-MOST_IN_ONE.true (omega arith)
