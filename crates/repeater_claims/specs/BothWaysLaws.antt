-- Tree neighbours are each other's, and lead along each branch both ways.
use Rattle.std.specs.Prelude.{◌≡◌, refl, Bool, true, false, ◌&&◌, ◌||◌, List, [], ◌∷◌, ℕ, ◌<◌, eqb}
use Rattle.std.proofs.Common.{inl, inr, arith, eq-eqb}
use Rattle.basics.specs.Lists.{In}
use Rattle.repeaters.specs.Repeaters.{is_step, beside_on, neighbouring, tree_neighbours}
use Rattle.repeaters.specs.NeighbourLaws.{passing_in, passing_all, BothWays, neighbours_hold}
use Rattle.walk.specs.Walks.{StaysBelow}

-- ---- tree neighbours

pub neighbour_in : (branches : List (List ℕ)) (n u v : ℕ) → In v (tree_neighbours branches n u) → (v < n) × (neighbouring branches u v ≡ true)
unfolding tree_neighbours
neighbour_in branches n u v i = let r = passing_in (neighbouring branches u) n 0 v i in (omega (arith, r.1), r.2)

pub in_neighbours : (branches : List (List ℕ)) (n u v : ℕ) → v < n → neighbouring branches u v ≡ true → In v (tree_neighbours branches n u)
unfolding tree_neighbours
in_neighbours branches n u v h e = passing_all (neighbouring branches u) n 0 v (omega arith) (omega arith) e

pub neighbours-below : (branches : List (List ℕ)) (n : ℕ) → StaysBelow (tree_neighbours branches n) n
neighbours-below branches n u h v i = (neighbour_in branches n u v i).0

-- ---- tests that one of two passes

or_first : (a b : Bool) → a ≡ true → a || b ≡ true
or_first a b e = rw e

pub or_second : (a b : Bool) → b ≡ true → a || b ≡ true
or_second true b e = refl
or_second false b e = e

same-both : (a b : ℕ) → (eqb a a && eqb b b) ≡ true
same-both a b = rw (eq-eqb a a refl, eq-eqb b b refl)

step-there : (a b : ℕ) → is_step a b a b ≡ true
unfolding is_step
step-there a b = or_first (eqb a a && eqb b b) (eqb b a && eqb a b) (same-both a b)

step-again : (a b : ℕ) → is_step a b b a ≡ true
unfolding is_step
step-again a b = or_second (eqb a b && eqb b a) (eqb b b && eqb a a) (same-both b a)

-- ---- along one branch both ways

pub both-all : (P : ℕ → ℕ → Type 0) (l : List ℕ) → ((a b : ℕ) → In a l → In b l → P a b) → BothWays P l
both-all P [] f = tt {0}
both-all P (a ∷ []) f = tt {0}
both-all P (a ∷ (b ∷ rest)) f = (f a b (inl refl) (inr (inl refl)), f b a (inr (inl refl)) (inl refl), both-all P (b ∷ rest) (λ x y i j. f x y (inr i) (inr j)))

pub both_map : (P Q : ℕ → ℕ → Type 0) (l : List ℕ) → ((a b : ℕ) → In a l → In b l → P a b → Q a b) → BothWays P l → BothWays Q l
both_map P Q [] f s = s
both_map P Q (a ∷ []) f s = s
both_map P Q (a ∷ (b ∷ rest)) f s =
    (f a b (inl refl) (inr (inl refl)) s.0, f b a (inr (inl refl)) (inl refl) s.1, both_map P Q (b ∷ rest) (λ x y i j. f x y (inr i) (inr j)) s.2)

both-back : (P : ℕ → ℕ → Type 0) (l : List ℕ) → BothWays P l → BothWays (λ a b. P b a) l
both-back P [] s = s
both-back P (a ∷ []) s = s
both-back P (a ∷ (b ∷ rest)) s = (s.1, s.0, both-back P (b ∷ rest) s.2)

-- the cells of a branch that stand next to each other on it are tree neighbours
beside-both : (branch : List ℕ) → BothWays (λ a b. beside_on branch a b ≡ true) branch
unfolding beside_on
beside-both [] = tt {0}
beside-both (a ∷ []) = tt {0}
beside-both (a ∷ (b ∷ rest)) = (
  or_first (is_step a b a b) (beside_on (b ∷ rest) a b) (step-there a b),
  or_first (is_step a b b a) (beside_on (b ∷ rest) b a) (step-again a b),
  both_map (λ x y. beside_on (b ∷ rest) x y ≡ true) (λ x y. beside_on (a ∷ (b ∷ rest)) x y ≡ true) (b ∷ rest)
      (λ x y i j e. or_second (is_step a b x y) (beside_on (b ∷ rest) x y) e) (beside-both (b ∷ rest)),
)

beside-neighbouring : (branches : List (List ℕ)) (branch : List ℕ) → In branch branches → (u v : ℕ) → beside_on branch u v ≡ true → neighbouring branches u v ≡ true
unfolding neighbouring
beside-neighbouring [] branch i u v e = absurd i
beside-neighbouring (b ∷ bs) branch (inl q) u v e = or_first (beside_on b u v) (neighbouring bs u v) (rw q at e)
beside-neighbouring (b ∷ bs) branch (inr i) u v e = or_second (beside_on b u v) (neighbouring bs u v) (beside-neighbouring bs branch i u v e)

pub branch-neighbouring : (branches : List (List ℕ)) (branch : List ℕ) → In branch branches → BothWays (λ a b. neighbouring branches a b ≡ true) branch
branch-neighbouring branches branch i =
    both_map (λ a b. beside_on branch a b ≡ true) (λ a b. neighbouring branches a b ≡ true) branch (λ a b _ _ e. beside-neighbouring branches branch i a b e) (beside-both branch)

-- tree neighbours are each other's
pub neighbouring-back : (branches : List (List ℕ)) (u v : ℕ) → neighbouring branches u v ≡ true → neighbouring branches v u ≡ true
neighbouring-back branches u v =
    neighbours_hold (λ a b. neighbouring branches b a ≡ true) u v branches
    (λ branch i. both-back (λ a b. neighbouring branches a b ≡ true) branch (branch-neighbouring branches branch i))

pub neighbour-back : (branches : List (List ℕ)) (n u v : ℕ) → u < n → In v (tree_neighbours branches n u) → In u (tree_neighbours branches n v)
neighbour-back branches n u v h i = in_neighbours branches n v u h (neighbouring-back branches u v (neighbour_in branches n u v i).1)
