-- Laws of a list's sheets: each takes a byte at least and no more than there are, and the sheets from one on are its first and those behind it.
use Rattle.std.specs.Prelude.{◌≡◌, refl, List, [], ◌∷◌, ℕ, zero, suc, ◌≤◌, ◌<◌, ltb, length}
use Rattle.std.proofs.Common.{sym, ap, arith, length-drop, ltb-true, ltb-false, lt-ltb, le-ltb}
use Rattle.basics.specs.Tests.{ask}
use Rattle.job_list.specs.Split.{told_long, sheet_long, first_sheet, behind_first, sheets_within, sheets_in}

module _ (l : List ℕ) where
  pub long-most : sheet_long l ≤ length l
  unfolding sheet_long
  long-most = ask (ltb (length l) (told_long l)) (λ t. rw t (omega arith)) (λ f. rw f (ltb-false (length l) (told_long l) f))

  pub long-some : 0 < length l → 0 < sheet_long l
  unfolding sheet_long
  long-some h = ask (ltb (length l) (told_long l)) (λ t. rw t h) (λ f. rw f (omega arith))

  pub long-short : length l < told_long l → length l ≡ sheet_long l
  unfolding sheet_long
  long-short h = rw (lt-ltb _ _ h)

  pub long-told : told_long l ≤ length l → told_long l ≡ sheet_long l
  unfolding sheet_long
  long-told h = rw (le-ltb _ _ h)

  pub behind-less : 0 < length l → length (behind_first l) < length l
  behind-less h = rw (length-drop (sheet_long l) l) (omega (arith, long-some h, long-most))

pub within_none : (n : ℕ) (l : List ℕ) → length l ≡ 0 → sheets_within n l ≡ []
unfolding sheets_within
within_none zero l e = refl
within_none (suc n) l e = rw (le-ltb 0 (length l) (omega arith))

-- more turns than bytes bring nothing
pub within-enough : (n m : ℕ) (l : List ℕ) → length l ≤ n → length l ≤ m → sheets_within n l ≡ sheets_within m l
unfolding sheets_within
within-enough zero m l h k = sym (within_none m l (omega arith))
within-enough (suc n) zero l h k = within_none (suc n) l (omega arith)
within-enough (suc n) (suc m) l h k =
    ask (ltb 0 (length l))
    (λ t. let b = behind-less l (ltb-true 0 (length l) t) in rw t (ap (λ r. first_sheet l ∷ r) (within-enough n m (behind_first l) (omega arith) (omega arith))))
    (λ f. rw f)

pub sheets_some : (l : List ℕ) → 0 < length l → sheets_in l ≡ first_sheet l ∷ sheets_in (behind_first l)
unfolding sheets_within
sheets_some l h = let b = behind-less l h in go (length l) refl b
  where
    go : (n : ℕ) → n ≡ length l → length (behind_first l) < length l → sheets_within n l ≡ first_sheet l ∷ sheets_in (behind_first l)
    go zero e b = absurd (omega arith)
    go (suc n) e b = rw (lt-ltb 0 (length l) h) (ap (λ r. first_sheet l ∷ r) (within-enough n (length (behind_first l)) (behind_first l) (omega arith) (omega arith)))

pub sheets_none : (l : List ℕ) → length l ≡ 0 → sheets_in l ≡ []
sheets_none l e = within_none (length l) l e
