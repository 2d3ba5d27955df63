-- `makes_detour` meets its contract: sides are small.
use native.Mathlib.Omega.{arith}
use Rattle.goals.proofs.LeastLaws.{apart-few, rest-few}
use Rattle.goals.proofs.passing.makes_detour.Goals as goal

pub overflow_add-straight : goal.overflow_add-straight
overflow_add-straight c =
    let up = apart-few _ _ c.apart-up.ensures c.requires.small_pos.y_small c.requires.small_pos_2.y_small in
    let x = apart-few _ _ c.apart.ensures c.requires.small_pos.x_small c.requires.small_pos_2.x_small in
    let z = apart-few _ _ c.apart-2.ensures c.requires.small_pos.z_small c.requires.small_pos_2.z_small in
    record { fits = omega (arith, up, rest-few _ _ _ c.saturating_sub.ensures x z) }

pub overflow_mul-result : goal.overflow_mul-result
overflow_mul-result c =
    let up = apart-few _ _ c.apart-up.ensures c.requires.small_pos.y_small c.requires.small_pos_2.y_small in
    let x = apart-few _ _ c.apart.ensures c.requires.small_pos.x_small c.requires.small_pos_2.x_small in
    let z = apart-few _ _ c.apart-2.ensures c.requires.small_pos.z_small c.requires.small_pos_2.z_small in
    record { fits = omega (arith, up, rest-few _ _ _ c.saturating_sub.ensures x z) }

pub overflow_add-result : goal.overflow_add-result
overflow_add-result c =
    let up = apart-few _ _ c.apart-up.ensures c.requires.small_pos.y_small c.requires.small_pos_2.y_small in
    let x = apart-few _ _ c.apart.ensures c.requires.small_pos.x_small c.requires.small_pos_2.x_small in
    let z = apart-few _ _ c.apart-2.ensures c.requires.small_pos.z_small c.requires.small_pos_2.z_small in
    record { fits = omega (arith, up, rest-few _ _ _ c.saturating_sub.ensures x z) }
