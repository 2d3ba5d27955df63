-- Lists of zeros: cleared memory.
use Rattle.std.specs.Prelude.{◌≡◌, refl, List, ◌∷◌, ℕ, zero, suc, ◌-◌, ◌≤◌, length, get_or, take, drop, replicate}
use Rattle.std.proofs.Common.{ap, ◌∙◌, arith}
use Rattle.std.proofs.Math.Nat.{sub-zero, zero-sub, suc-sub-suc}
use Rattle.std.proofs.lemmas.List.{length-replicate}

-- an element of n zeros, in reach or not
pub zeros : (n i : ℕ) → get_or {A = ℕ} (replicate n 0) i 0 ≡ 0
zeros zero i = refl
zeros (suc n) zero = refl
zeros (suc n) (suc i) = zeros n i

pub take_zeros : (n m : ℕ) → n ≤ m → take {A = ℕ} n (replicate m 0) ≡ replicate n 0
take_zeros zero m h = refl
take_zeros (suc n) zero h = absurd (omega arith)
take_zeros (suc n) (suc m) h = ap (λ l. 0 ∷ l) (take_zeros n m (omega arith))

pub drop_zeros : (n m : ℕ) → drop {A = ℕ} n (replicate m 0) ≡ replicate (m - n) 0
drop_zeros zero m = rw sub-zero
drop_zeros (suc n) zero = rw zero-sub
drop_zeros (suc n) (suc m) = rw suc-sub-suc (drop_zeros n m)

-- as many zeros as one of two equal numbers says are as many as the other says
pub cleared-to : {l : List ℕ} {m n : ℕ} → m ≡ n → l ≡ replicate m 0 → l ≡ replicate n 0
cleared-to e c = c ∙ ap (λ k. replicate k 0) e

-- a list that is n zeros has length n
pub zeros-long : {l : List ℕ} {n : ℕ} → l ≡ replicate n 0 → length l ≡ n
zeros-long {n = n} e = ap length e ∙ length-replicate {A = ℕ} n 0
