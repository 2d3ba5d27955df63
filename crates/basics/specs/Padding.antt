-- A list that is padded to a fixed number of places.
use Rattle.std.specs.Prelude.{◌≡◌, List, [], ◌∷◌, ◌++◌, ℕ, suc, ◌+◌, ◌-◌, ◌≤◌, ◌<◌, length, set, replicate}
use Rattle.std.proofs.Common.{sym, ap, ◌∙◌, append_assoc, arith, length-append}
use Rattle.std.proofs.lemmas.List.{length-replicate, set_at}

module _ {X : Type 0} (xs : List X) (n k : ℕ) (d : X) (long : length xs ≡ k) where
  -- k members and the padding are n places
  pub padded_long : k ≤ n → length (xs ++ replicate (n - k) d) ≡ n
  padded_long h = length-append xs (replicate (n - k) d) ∙ rw (length-replicate (n - k) d) (omega (arith, long))

  -- a member written to the first place behind them is one more
  pub padded_next : k < n → (x : X) → set (xs ++ replicate (n - k) d) k x ≡ (xs ++ (x ∷ [])) ++ replicate (n - (k + 1)) d
  padded_next h x =
      let one : n - k ≡ suc (n - (k + 1)) = omega arith in
      let left : List X = replicate (n - (k + 1)) d in
      ap (λ m. set (xs ++ replicate m d) k x) one ∙ set_at xs d left x k long ∙ sym (append_assoc xs (x ∷ []) left)
