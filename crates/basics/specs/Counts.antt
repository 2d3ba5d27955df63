-- Counting: 1 for a test that passes, and how many members of a list pass one.
use Rattle.std.specs.Prelude.{Bool, true, false, List, [], ◌∷◌, ℕ, ◌+◌, ◌≤◌, length}
use Rattle.std.proofs.Common.{zero-le, arith}

abbrev pub bit : Bool → ℕ
bit true = 1
bit false = 0

pub bit-small : (b : Bool) → bit b ≤ 1
bit-small true = omega arith
bit-small false = omega arith

-- how many of the members pass a test
unfoldable pub times : {X : Type 0} → (X → Bool) → List X → ℕ
times p [] = 0
times p (x ∷ xs) = bit (p x) + times p xs

pub times-most : {X : Type 0} (p : X → Bool) (l : List X) → times p l ≤ length l
unfolding times
times-most p [] = zero-le
times-most p (x ∷ l) = omega (arith, bit-small (p x), times-most p l)
