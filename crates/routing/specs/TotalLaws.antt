-- The walk along a path that counts its totals: what is left from here and what was counted make the whole; and the sums stay in 32 bits.
use Rattle.std.specs.Prelude.{◌≡◌, refl, ◌≢◌, List, ℕ, ◌+◌, ◌*◌, ◌≤◌, ◌<◌, max, eqb, length, get_or, drop}
use Rattle.std.proofs.Common.{suc-mul, mul-le-mul_left, add-one, arith, eq-eqb, ne_eqb}
use Rattle.basics.specs.Tests.{ask}
use Rattle.basics.specs.Folds.{ByPairs, pairs_next, pairs_end}
use Rattle.room.specs.declared.Room.{Room}
use Rattle.room.specs.declared.RouterConfig.{RouterConfig}
use Rattle.room.specs.Room.{Good, max_volume, volume, pos_of, beneath}
use Rattle.room.specs.Units.{GoodConfig, max_product, dearest, air}
use Rattle.room.specs.UnitLaws.{few-steps}
use Rattle.room_search.specs.Routing.{kind_at}
use Rattle.routing.specs.Totals.{step_of, laid_at, path_steps, path_laid}

-- what the totals of a path ask: a good room with a kind for each cell, a good config, and cells of the room, not more of them than it has
pub record Countable (R : Room) (C : RouterConfig) (kinds path : List ℕ) : Type 0 where
  pub good : Good R
  pub config-good : GoodConfig R C
  pub kinds-long : length kinds ≡ volume R
  pub path-short : length path ≤ volume R
  pub cells : (i : ℕ) → i < length path → get_or path i 0 < volume R

-- ---- one step

abbrev dearer : RouterConfig → ℕ
dearer C = max C.horizontal.0 C.stair.0

dearer-low : (C : RouterConfig) → dearer C ≤ dearest C
unfolding dearest
dearer-low C = omega arith

support_low : (C : RouterConfig) → C.support.0 ≤ dearest C
unfolding dearest
support_low C = omega arith

step-low : (R : Room) (C : RouterConfig) (u v : ℕ) → step_of R C u v ≤ dearer C
unfolding step_of
step-low R C u v = ask (eqb (pos_of R u).y (pos_of R v).y) (λ t. rw t (omega arith)) (λ f. rw f (omega arith))

pub laid-low : (R : Room) (kinds : List ℕ) (v : ℕ) → laid_at R kinds v ≤ 1
unfolding laid_at
laid-low R kinds v = ask (eqb (kind_at kinds (beneath R v)) air) (λ t. rw t (omega arith)) (λ f. rw f (omega arith))

pub step-flat : (R : Room) (C : RouterConfig) (u v : ℕ) → (pos_of R u).y ≡ (pos_of R v).y → C.horizontal.0 ≡ step_of R C u v
unfolding step_of
step-flat R C u v e = rw (eq-eqb _ _ e)

pub step_stair : (R : Room) (C : RouterConfig) (u v : ℕ) → (pos_of R u).y ≢ (pos_of R v).y → C.stair.0 ≡ step_of R C u v
unfolding step_of
step_stair R C u v n = rw (ne_eqb _ _ n)

pub laid_one : (R : Room) (kinds : List ℕ) (v : ℕ) → kind_at kinds (beneath R v) ≡ air → 1 ≡ laid_at R kinds v
unfolding laid_at
laid_one R kinds v e = rw (eq-eqb _ _ e)

pub laid_none : (R : Room) (kinds : List ℕ) (v : ℕ) → kind_at kinds (beneath R v) ≢ air → 0 ≡ laid_at R kinds v
unfolding laid_at
laid_none R kinds v n = rw (ne_eqb _ _ n)

steps-by : (R : Room) (C : RouterConfig) → ByPairs (path_steps R C) 0 (λ a b rest. step_of R C a b + rest)
steps-by R C = record { at-nothing = refl; at_one = λ a. refl; at_pair = λ a b rest. refl }

laid_by : (R : Room) (kinds : List ℕ) → ByPairs (path_laid R kinds) 0 (λ a b rest. laid_at R kinds b + rest)
laid_by R kinds = record { at-nothing = refl; at_one = λ a. refl; at_pair = λ a b rest. refl }

one_more : (n d : ℕ) → (n + 1) * d ≡ n * d + d
one_more n d = rw (add-one n) (suc-mul n d)

-- ---- the walk, at the i-th cell of the path

pub record Counting (R : Room) (C : RouterConfig) (kinds path : List ℕ) (i steps laid : ℕ) : Type 0 where
  pub within : i ≤ length path
  pub steps-left : steps + path_steps R C (drop i path) ≡ path_steps R C path
  pub laid-left : laid + path_laid R kinds (drop i path) ≡ path_laid R kinds path
  pub steps-most : steps ≤ i * dearer C
  pub laid-most : laid ≤ i

module _ (R : Room) (C : RouterConfig) (kinds path : List ℕ) where
  pub counting_none : Counting R C kinds path 0 0 0
  counting_none = record { within = omega arith; steps-left = omega arith; laid-left = omega arith; steps-most = omega arith; laid-most = omega arith }

  module _ {i steps laid : ℕ} (I : Counting R C kinds path i steps laid) where
    module _ (h : i + 1 < length path) where
      pub counting_next : {step new : ℕ} → step ≡ step_of R C (get_or path i 0) (get_or path (i + 1) 0) → new ≡ laid_at R kinds (get_or path (i + 1) 0)
          → Counting R C kinds path (i + 1) (steps + step) (laid + new)
      counting_next e k =
          let u = get_or path i 0 in
          let v = get_or path (i + 1) 0 in
          record {
            within = omega arith;
            steps-left = omega (arith, I.steps-left, pairs_next (steps-by R C) path i h, e);
            laid-left = omega (arith, I.laid-left, pairs_next (laid_by R kinds) path i h, k);
            steps-most = omega (arith, I.steps-most, e, step-low R C u v, one_more i (dearer C));
            laid-most = omega (arith, I.laid-most, k, laid-low R kinds v);
          }

    -- fewer than two cells are left
    module _ (h : length path ≤ i + 1) where
      pub counted-steps : steps ≡ path_steps R C path
      counted-steps = omega (arith, I.steps-left, pairs_end (steps-by R C) path i h)

      pub counted-laid : laid ≡ path_laid R kinds path
      counted-laid = omega (arith, I.laid-left, pairs_end (laid_by R kinds) path i h)

    -- the sums stay within the product, and so in 32 bits: no more steps, and no more supports, than the room has cells
    module _ (P : Countable R C kinds path) where
      pub steps-fit : i + 1 < length path → (step : ℕ) → step ≡ step_of R C (get_or path i 0) (get_or path (i + 1) 0) → steps + step ≤ max_product
      steps-fit h step e =
          let few : i + 1 ≤ volume R = omega (arith, P.path-short) in
          omega (arith, I.steps-most, e, step-low R C (get_or path i 0) (get_or path (i + 1) 0), one_more i (dearer C), mul-le-mul_left (i + 1) (dearer-low C), few-steps P.config-good few)

      pub laid-fit : laid ≤ max_volume
      laid-fit = omega (arith, I.laid-most, I.within, P.path-short, P.good.few)

      pub supports-fit : laid * C.support.0 ≤ max_product
      supports-fit =
          let few : laid ≤ volume R = omega (arith, I.laid-most, I.within, P.path-short) in
          omega (arith, mul-le-mul_left laid (support_low C), few-steps P.config-good few)
