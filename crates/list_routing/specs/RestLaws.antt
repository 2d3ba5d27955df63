-- Laws of what is left of a buffer.
use Rattle.std.specs.Prelude.{◌≡◌, List, ◌++◌, ℕ, ◌+◌, ◌-◌, ◌≤◌, length, take, drop, replicate}
use Rattle.std.proofs.Common.{sym, ap, ◌∙◌, append-nil, append_assoc, arith, length-append, length-drop, drop_of_length-le, take_all, take_at, drop_at, length-take-le}
use Rattle.lent.specs.Lent.{filled}
use Rattle.list_routing.specs.Parts.{rest_of, put_back}

module _ (n : ℕ) (l : List ℕ) where
  pub rest-is : rest_of n l ≡ drop n l
  rest-is = take_all (length l - n) (drop n l) (omega (arith, length-drop n l))

  pub rest-long : length (rest_of n l) ≡ length l - n
  rest-long = ap length rest-is ∙ length-drop n l

  pub back_is : (part : List ℕ) → put_back n l part ≡ take n l ++ part
  back_is part =
      let all : length (drop n l) ≤ length l - n = omega (arith, length-drop n l) in
      ap (λ x. take n l ++ (part ++ x)) (drop_of_length-le (drop n l) all) ∙ ap (λ x. take n l ++ x) (append-nil part)

  pub back_long : n ≤ length l → (part : List ℕ) → length part ≡ length (rest_of n l) → length (put_back n l part) ≡ length l
  back_long h part e = ap length (back_is part) ∙ length-append (take n l) part ∙ omega (arith, length-take-le n l h, rest-long)

-- a buffer that has these entries in front, and zeros behind them
module _ (front l : List ℕ) (is : l ≡ filled front l) (n : ℕ) (long : n ≡ length front) where
  front-is : take n l ≡ front
  front-is = ap (take n) is ∙ take_at front (replicate (length l - length front) 0) n (sym long)

  pub rest-clear : rest_of n l ≡ replicate (length l - n) 0
  rest-clear = rest-is n l ∙ ap (drop n) is ∙ drop_at front (replicate (length l - length front) 0) n (sym long) ∙ ap (λ k. replicate (length l - k) 0) (sym long)

  pub rest-cleared : rest_of n l ≡ replicate (length (rest_of n l)) 0
  rest-cleared = rest-clear ∙ ap (λ k. replicate k 0) (sym (rest-long n l))

  -- more entries behind them
  pub more-filled : (more : List ℕ) {part l' : List ℕ} → part ≡ filled more (rest_of n l) → l' ≡ put_back n l part → length l' ≡ length l → l' ≡ filled (front ++ more) l'
  more-filled more {part} {l'} p q same =
      let sum_is : length (front ++ more) ≡ length front + length more = length-append front more in
      let zeros : length (rest_of n l) - length more ≡ length l' - length (front ++ more) = omega (arith, rest-long n l) in
      q
      ∙ back_is n l part
      ∙ (λ i. front-is i ++ p i)
      ∙ sym (append_assoc front more (replicate (length (rest_of n l) - length more) 0))
      ∙ ap (λ k. (front ++ more) ++ replicate k 0) zeros

  -- and they have place there
  pub more-fits : n ≤ length l → (more : List ℕ) {part l' : List ℕ} → part ≡ filled more (rest_of n l) → l' ≡ put_back n l part → length l' ≡ length l → n + length more ≤ length l
  more-fits h more {part} {l'} p q same =
      let whole : length l' ≡ length (take n l) + length part = ap length (q ∙ back_is n l part) ∙ length-append (take n l) part in
      let part-long : length part ≡ length more + length (replicate {A = ℕ} (length (rest_of n l) - length more) 0) = ap length p ∙ length-append more (replicate (length (rest_of n l) - length more) 0) in
      omega (arith, length-take-le n l h)

  -- the part, as it is handed on from the whole
  pub part-back : n ≤ length l → (part l' : List ℕ) → l' ≡ put_back n l part → rest_of n l' ≡ part
  part-back h part l' q =
      rest-is n l' ∙ ap (drop n) (q ∙ back_is n l part) ∙ drop_at (take n l) part n (length-take-le n l h)
