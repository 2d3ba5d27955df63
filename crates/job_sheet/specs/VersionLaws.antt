-- Every version's ranges are within the search's, so that what is judged good at them is a good room and a good config.
use Rattle.std.specs.Prelude.{◌≡◌, Bool, true, false, ℕ, ◌*◌, ◌≤◌, eqb}
use Rattle.std.proofs.Math.Path.{refl}
use Rattle.std.proofs.Math.Nat.{le_trans, mul-le-mul}
use native.Mathlib.Omega.{arith}
use borrow.Author.Tests.{le-leb}
use Rattle.basics.specs.Tests.{ask, passed, and_both, and_right}
use Rattle.room.specs.declared.Room.{Room}
use Rattle.room.specs.declared.RouterConfig.{RouterConfig}
use Rattle.room.specs.Room.{Good, between, volume}
use Rattle.room.specs.Units.{max_cost, max_nodes, max_product, dearest, ranges_good, config_good, GoodConfig}
use Rattle.room.specs.UnitLaws as units
use Rattle.job_sheet.specs.declared.Ranges.{Ranges}
use Rattle.job_sheet.specs.Version.{first_ranges, hall_ranges, version_one, version_two, version_three, version_of, width, limit_size, sides_within, costs_within, config_within, Searchable}

pub width_few : (long : Bool) → width long ≤ 2
width_few false = omega arith
width_few true = omega arith

pub limit-few : (limits : Bool) → limit_size limits ≤ 1
limit-few false = omega arith
limit-few true = omega arith

-- each number stands for its version
pub one_known : version_of version_one.number ≡ version_one
unfolding version_of
one_known = refl

pub two-known : version_of version_two.number ≡ version_two
unfolding version_of
two-known = refl

pub three-known : version_of version_three.number ≡ version_three
unfolding version_of
three-known = refl

pub first-searchable : Searchable first_ranges
first-searchable = record { side_most = omega arith; cells-most = omega arith }

pub hall_searchable : Searchable hall_ranges
hall_searchable = record { side_most = omega arith; cells-most = omega arith }

pub searchable : (first : ℕ) → Searchable (version_of first).ranges
unfolding version_of
searchable first =
    ask (eqb first 3) (λ t. rw t hall_searchable) (λ f. ask (eqb first 2) (λ t. rw (f, t) first-searchable) (λ n. rw (f, n) first-searchable))

module _ (g : Ranges) (S : Searchable g) where
  pub good-sides : (R : Room) → sides_within g R ≡ true → Good R
  unfolding sides_within between
  good-sides R e =
      let x : R.wide ≤ g.side = search passed in
      let y : R.high ≤ g.side = search passed in
      let z : R.deep ≤ g.side = search passed in
      let n : volume R ≤ g.cells = search passed in
      record {
        x_some = search passed;
        x_most = le_trans x S.side_most;
        y_some = search passed;
        y_most = le_trans y S.side_most;
        z_some = search passed;
        z_most = le_trans z S.side_most;
        few = le_trans n S.cells-most;
      }

-- a config that number 3 does not refuse can be searched with
pub good-config : (g : Ranges) (R : Room) (C : RouterConfig) → config_within g R C ≡ true → GoodConfig R C
unfolding config_within
good-config g R C e = units.good-config R C (and_right (costs_within g C) (config_good R C) e)

-- "Every old job within its limits passes this"
module _ (R : Room) (C : RouterConfig) (s : sides_within first_ranges R ≡ true) (e : costs_within first_ranges C ≡ true) where
  ranges_pass : ranges_good C ≡ true
  unfolding costs_within ranges_good
  ranges_pass =
      let n : C.limit.0 ≤ first_ranges.nodes = search passed in
      let h : C.horizontal.0 ≤ first_ranges.cost = search passed in
      let k : C.stair.0 ≤ first_ranges.cost = search passed in
      let u : C.support.0 ≤ first_ranges.cost = search passed in
      rw (le-leb C.limit.0 max_nodes (omega (arith, n)), le-leb C.horizontal.0 max_cost (omega (arith, h)), le-leb C.stair.0 max_cost (omega (arith, k)), le-leb C.support.0 max_cost (omega (arith, u))) refl

  dear-within : dearest C ≤ 2 * first_ranges.cost
  unfolding costs_within dearest
  dear-within =
      let h : C.horizontal.0 ≤ first_ranges.cost = search passed in
      let k : C.stair.0 ≤ first_ranges.cost = search passed in
      let u : C.support.0 ≤ first_ranges.cost = search passed in omega arith

  cells-within : volume R ≤ first_ranges.cells
  unfolding sides_within
  cells-within = search passed

  pub first_passes : config_good R C ≡ true
  unfolding config_good
  first_passes = and_both ranges_pass (le-leb (volume R * dearest C) max_product (omega (arith, mul-le-mul cells-within dear-within)))
