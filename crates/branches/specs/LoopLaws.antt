-- Laws of counting and of the loop that adds: the marks that a filter lets through, the lengths summed so far.
use Rattle.std.specs.Prelude.{◌≡◌, refl, List, [], ◌∷◌, ◌++◌, ℕ, zero, suc, ◌+◌, ◌*◌, ◌≤◌, ◌<◌, eqb, length, get_or, take}
use Rattle.std.proofs.Common.{sym, ◌∙◌, add-one, arith, take-suc}
use Rattle.std.proofs.Math.Path.{ap}
use Rattle.std.specs.List.{filter}
use Rattle.basics.specs.Tests.{ask}
use Rattle.basics.specs.Counts.{times}
use Rattle.branches.specs.Branches.{marked_count, sum}

-- ---- marks counted

-- the marks that a filter lets through
pub counted : (marks : List ℕ) → length (filter (λ m. eqb m 1) marks) ≡ marked_count marks
unfolding marked_count times
counted [] = refl
counted (m ∷ marks) = ask (eqb m 1) (λ t. rw t (omega (arith, counted marks))) (λ f. rw f (omega (arith, counted marks)))

-- ---- lengths summed

pub sum_append : (xs ys : List ℕ) → sum (xs ++ ys) ≡ sum xs + sum ys
unfolding sum
sum_append [] ys = omega arith
sum_append (x ∷ xs) ys = omega (arith, sum_append xs ys)

-- numbers of which none is above this one
pub sum-most : (most : ℕ) (each : List ℕ) (n : ℕ) → ((i : ℕ) → i < n → get_or each i 0 ≤ most) → sum (take n each) ≤ n * most
unfolding sum
sum-most most each zero f = omega arith
sum-most most [] (suc n) f = omega arith
sum-most most (x ∷ each) (suc n) f =
    let a : x ≤ most = f 0 (omega arith) in
    let b : sum (take n each) ≤ n * most = sum-most most each n (λ i h. f (suc i) (omega arith)) in
    omega (arith, a, b)

-- the first i of the numbers are summed
pub record Summed (each : List ℕ) (so_far i : ℕ) : Type 0 where
  pub is : so_far ≡ sum (take i each)

pub summed_none : (each : List ℕ) → Summed each 0 0
unfolding sum
summed_none each = record { is = refl }

pub summed_next : {each : List ℕ} {so_far i : ℕ} → Summed each so_far i → i < length each → Summed each (so_far + get_or each i 0) (i + 1)
unfolding sum
summed_next {each = each} {i = i} S h = record {
  is =
      rw add-one
      (ap (λ n. n + get_or each i 0) S.is
      ∙ sym (ap sum (take-suc each i 0 h) ∙ sum_append (take i each) (get_or each i 0 ∷ []) ∙ omega arith));
}

pub summed_most : {each : List ℕ} {so_far i : ℕ} → Summed each so_far i → (most : ℕ) → ((j : ℕ) → j < i → get_or each j 0 ≤ most) → so_far ≤ i * most
summed_most {each = each} {i = i} S most f = rw S.is (sum-most most each i f)
