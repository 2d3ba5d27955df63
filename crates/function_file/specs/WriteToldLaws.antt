-- The values of what was written, told or kept; and that the promise determines the number and every lent byte.
use Rattle.std.specs.Prelude.{◌≡◌, Result, true, false, List, [], ◌∷◌, ℕ}
use Rattle.std.proofs.Common.{sym, ap, ◌∙◌, arith}
use Rattle.numbers.specs.Refusals.{sides_number, buffer_number}
use Rattle.basics.specs.Promises.{Determines}
use Rattle.lent.specs.Lent.{touches, filled, output_after}
use Rattle.room.specs.declared.Room.{Room}
use Rattle.room.specs.Room.{sides_good}
use Rattle.function_file.specs.declared.WriteFault.{WriteFault}
use Rattle.function_file.specs.Written.{written_number}
use Rattle.function_file.specs.WriteLaws as writing
use Rattle.function_file.specs.WriteTold.{few_number, bytes_written, written_values, WriteTold, few_to_write, write_told}

-- too few values are lent
module _ (R : Room) where
  pub few-buffer : sides_good R ≡ true → buffer_number ≡ few_number R
  unfolding few_number
  few-buffer s = rw s

  pub few-sides : sides_good R ≡ false → sides_number ≡ few_number R
  unfolding few_number
  few-sides s = rw s

-- the values of an answer whose number touches memory; the others leave them as they are
module _ (a : Result ℕ WriteFault) (values : List ℕ) {number : ℕ} (n : number ≡ written_number a) where
  pub written-told : touches number ≡ true → {bytes : ℕ} {values' : List ℕ} → bytes ≡ bytes_written a → values' ≡ filled (0 ∷ bytes ∷ []) values
      → values' ≡ output_after (written_number a) (written_values a) values
  written-told t b w = let e = rw n at t in w ∙ rw (b, e)

  pub written-kept : touches number ≡ false → values ≡ output_after (written_number a) (written_values a) values
  written-kept f = let e = rw n at f in rw e

-- ---- two results that keep the promise are one

pub record WriteResult : Type 0 where
  pub number : ℕ
  pub text : List ℕ
  pub values : List ℕ

same-result : {n n' : ℕ} {t t' v v' : List ℕ} → n ≡ n' → t ≡ t' → v ≡ v' → ◌≡◌ {A = WriteResult} (record { number = n; text = t; values = v }) (record { number = n'; text = t'; values = v' })
same-result a b c = rw (a, b, c)

module _ (R : Room) (kinds facings text values : List ℕ) where
  abbrev pub Keeps : WriteResult → Type 0
  Keeps x = WriteTold R kinds facings text values x.number x.text x.values

  pub coincide : Determines Keeps
  coincide x y (few_to_write h n t v) (few_to_write h' n' t' v') = same-result (n ∙ sym n') (t ∙ sym t') (v ∙ sym v')
  coincide x y (few_to_write h n t v) (write_told j a W m w) = absurd (omega arith)
  coincide x y (write_told j a W m w) (few_to_write h n t v) = absurd (omega arith)
  coincide x y (write_told j a W m w) (write_told j' a' W' m' w') =
      let e = writing.coincide R kinds facings text (record { answer = a; text = x.text }) (record { answer = a'; text = y.text }) W W' in
      let q : a ≡ a' = ap (λ (z : writing.WriteEnd). z.answer) e in
      same-result (m ∙ ap written_number q ∙ sym m') (ap (λ (z : writing.WriteEnd). z.text) e)
      (w ∙ ap (λ b. output_after (written_number b) (written_values b) values) q ∙ sym w')
