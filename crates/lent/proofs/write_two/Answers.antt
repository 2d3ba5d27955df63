-- `write_two` meets its contract: two values over cleared memory.
use Rattle.std.proofs.Common.{◌≡◌, ℕ, zero, suc, ◌-◌, ◌≤◌, [], ◌∷◌, ◌++◌, set, arith}
use Rattle.std.specs.Prelude.{replicate}
use Rattle.lent.proofs.write_two.Goals as goal

two-written : (a b n : ℕ) → 2 ≤ n → set (set (replicate n 0) 0 a) 1 b ≡ (a ∷ b ∷ []) ++ replicate (n - 2) 0
two-written a b (suc (suc n)) h = let e : suc (suc n) - 2 ≡ n = omega arith in rw e
two-written a b (suc zero) h = absurd (omega arith)
two-written a b zero h = absurd (omega arith)

pub returns : goal.returns
returns c = rw c.clear.ensures (two-written _ _ _ c.requires)
