-- Laws of the config: what its test says, and that a room's sums of costs stay in 32 bits.
use Rattle.std.specs.Prelude.{◌≡◌, true, ℕ, ◌+◌, ◌-◌, ◌*◌, ◌≤◌, ◌<◌, ◌^◌, leb}
use Rattle.std.proofs.Common.{mul-le-mul, mul-le-mul_right, arith, leb-true}
use Rattle.basics.specs.Tests.{passed, and_left, and_right}
use Rattle.room.specs.declared.Room.{Room}
use Rattle.room.specs.declared.RouterConfig.{RouterConfig}
use Rattle.room.specs.Room.{max_side, max_volume, volume}
use Rattle.room.specs.Units.{max_cost, max_product, dearest, ranges_good, config_good, GoodRanges, GoodConfig}

-- a config that passes the test of number 3 is good
pub good-ranges : (C : RouterConfig) → ranges_good C ≡ true → GoodRanges C
unfolding ranges_good
good-ranges C e = record { limit-most = search passed; horizontal-most = search passed; stair_most = search passed; support_most = search passed }

pub good-config : (R : Room) (C : RouterConfig) → config_good R C ≡ true → GoodConfig R C
unfolding config_good
good-config R C e = record {
  ranges = good-ranges C (and_left (ranges_good C) (leb (volume R * dearest C) max_product) e);
  product_most = leb-true (volume R * dearest C) max_product (and_right (ranges_good C) (leb (volume R * dearest C) max_product) e);
}

pub dearest-most : {C : RouterConfig} → GoodRanges C → dearest C ≤ 2 * max_cost
unfolding dearest
dearest-most F = omega (arith, F.horizontal-most, F.stair_most, F.support_most)

-- as it is computed, before it is judged
pub product_fits : {a b : ℕ} → a ≤ max_volume → b ≤ 2 * max_cost → a * b < 2 ^ 64
product_fits h k = omega (arith, mul-le-mul h k)

-- the costs of any path of at most V steps: they stay within the product
pub few-steps : {R : Room} {C : RouterConfig} → GoodConfig R C → {n : ℕ} → n ≤ volume R → n * dearest C ≤ max_product
few-steps {R} {C} F h = omega (arith, F.product_most, mul-le-mul_right (dearest C) h)

-- ten times the farthest distance of two cells, by the sides alone
abbrev pub max_estimate : ℕ
max_estimate = 10 * (3 * (max_side - 1))

-- and with the estimate added, which makes a key, and 1, which tells a known cost from none, they fit 32 bits
pub sums_fit : {R : Room} {C : RouterConfig} → GoodConfig R C → {n : ℕ} → n ≤ volume R → n * dearest C + max_estimate + 1 < 2 ^ 32
sums_fit F h = omega (arith, few-steps F h)
