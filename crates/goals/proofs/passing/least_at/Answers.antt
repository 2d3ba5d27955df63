-- `least_at` meets its contract: sides and costs are small enough for 32 bits.
use native.Mathlib.Omega.{arith}
use Prim.Native.Nat.{◌*◌}
use Rattle.room.specs.Room.{max_side}
use Rattle.goals.proofs.LeastLaws.{apart-few, rest-few, product_few, least-is}
use Rattle.goals.proofs.passing.least_at.Goals as goal

pub overflow_cast-result : goal.overflow_cast-result
overflow_cast-result c =
    record { fits = omega (arith, apart-few _ _ c.apart-up.ensures c.requires.small_pos.y_small c.requires.small_pos_2.y_small) }

pub overflow_mul-result : goal.overflow_mul-result
overflow_mul-result c =
    let up = apart-few _ _ c.apart-up.ensures c.requires.small_pos.y_small c.requires.small_pos_2.y_small in
    record { fits = omega (arith, product_few max_side up c.requires.good_ranges.stair_most) }

pub overflow_cast-result-2 : goal.overflow_cast-result-2
overflow_cast-result-2 c =
    let x = apart-few _ _ c.apart.ensures c.requires.small_pos.x_small c.requires.small_pos_2.x_small in
    let z = apart-few _ _ c.apart-2.ensures c.requires.small_pos.z_small c.requires.small_pos_2.z_small in
    record { fits = omega (arith, rest-few _ _ _ c.saturating_sub-rest.ensures x z) }

pub overflow_mul-result-2 : goal.overflow_mul-result-2
overflow_mul-result-2 c =
    let x = apart-few _ _ c.apart.ensures c.requires.small_pos.x_small c.requires.small_pos_2.x_small in
    let z = apart-few _ _ c.apart-2.ensures c.requires.small_pos.z_small c.requires.small_pos_2.z_small in
    record { fits = omega (arith, product_few (2 * max_side) (rest-few _ _ _ c.saturating_sub-rest.ensures x z) c.cheaper_step-cheaper.ensures.1) }

pub overflow_add-result : goal.overflow_add-result
overflow_add-result c =
    let up = apart-few _ _ c.apart-up.ensures c.requires.small_pos.y_small c.requires.small_pos_2.y_small in
    let x = apart-few _ _ c.apart.ensures c.requires.small_pos.x_small c.requires.small_pos_2.x_small in
    let z = apart-few _ _ c.apart-2.ensures c.requires.small_pos.z_small c.requires.small_pos_2.z_small in
    let rest = rest-few _ _ _ c.saturating_sub-rest.ensures x z in
    record { fits = omega (arith, product_few max_side up c.requires.good_ranges.stair_most, product_few (2 * max_side) rest c.cheaper_step-cheaper.ensures.1) }

pub returns : goal.returns
returns c =
    let args = c.args in
    least-is args.config args.p args.q c.apart-up.ensures c.apart.ensures c.apart-2.ensures c.saturating_sub-rest.ensures c.cheaper_step-cheaper.ensures.0
