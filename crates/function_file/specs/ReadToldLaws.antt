-- The values of what was read, told or kept; and that the promise determines the number and every lent byte.
use Rattle.std.specs.Prelude.{◌≡◌, Result, true, false, List, [], ◌∷◌, ℕ}
use Rattle.std.proofs.Common.{sym, ap, ◌∙◌, arith}
use Rattle.basics.specs.Promises.{Determines}
use Rattle.lent.specs.Lent.{touches, filled, output_after}
use Rattle.room.specs.declared.Room.{Room}
use Rattle.function_file.specs.declared.ReadFault.{ReadFault}
use Rattle.function_file.specs.Reading.{read_number, read_detail}
use Rattle.function_file.specs.Theorems as reading
use Rattle.function_file.specs.ReadTold.{lines_read, read_values, ReadTold, few-to-read, read_told}

-- the values of an answer whose number touches memory; the others leave them as they are
module _ (a : Result ℕ ReadFault) (values : List ℕ) {number : ℕ} (n : number ≡ read_number a) where
  pub lines_told : touches number ≡ true → {detail lines : ℕ} {values' : List ℕ} → detail ≡ read_detail a → lines ≡ lines_read a
      → values' ≡ filled (detail ∷ lines ∷ []) values → values' ≡ output_after (read_number a) (read_values a) values
  lines_told t d l w = let e = rw n at t in w ∙ rw (d, l, e)

  pub lines_kept : touches number ≡ false → values ≡ output_after (read_number a) (read_values a) values
  lines_kept f = let e = rw n at f in rw e

-- ---- two results that keep the promise are one

pub record ReadResult : Type 0 where
  pub number : ℕ
  pub kinds : List ℕ
  pub facings : List ℕ
  pub values : List ℕ

same-result : {n n' : ℕ} {k k' f f' v v' : List ℕ} → n ≡ n' → k ≡ k' → f ≡ f' → v ≡ v'
    → ◌≡◌ {A = ReadResult} (record { number = n; kinds = k; facings = f; values = v }) (record { number = n'; kinds = k'; facings = f'; values = v' })
same-result a b c d = rw (a, b, c, d)

module _ (R : Room) (text kinds facings values : List ℕ) where
  abbrev pub Keeps : ReadResult → Type 0
  Keeps x = ReadTold R text kinds facings values x.number x.kinds x.facings x.values

  pub coincide : Determines Keeps
  coincide x y (few-to-read h n k f v) (few-to-read h' n' k' f' v') = same-result (n ∙ sym n') (k ∙ sym k') (f ∙ sym f') (v ∙ sym v')
  coincide x y (few-to-read h n k f v) (read_told j a C m w) = absurd (omega arith)
  coincide x y (read_told j a C m w) (few-to-read h n k f v) = absurd (omega arith)
  coincide x y (read_told j a C m w) (read_told j' a' C' m' w') =
      let e = reading.coincide R text kinds facings (record { answer = a; kinds = x.kinds; facings = x.facings }) (record { answer = a'; kinds = y.kinds; facings = y.facings }) C C' in
      let q : a ≡ a' = ap (λ (z : reading.ReadEnd). z.answer) e in
      same-result (m ∙ ap read_number q ∙ sym m') (ap (λ (z : reading.ReadEnd). z.kinds) e) (ap (λ (z : reading.ReadEnd). z.facings) e)
      (w ∙ ap (λ b. output_after (read_number b) (read_values b) values) q ∙ sym w')
