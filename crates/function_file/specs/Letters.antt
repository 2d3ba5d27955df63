-- Two lists of numbers compared, and how long a word is.
use Rattle.std.specs.Prelude.{◌≡◌, refl, Bool, true, false, ◌&&◌, List, [], ◌∷◌, ℕ, ◌≤◌, ◌<◌, eqb, leb, length}
use Rattle.std.proofs.Common.{arith}
use Rattle.std.proofs.Math.ListN.{get_or-eq_default}
use borrow.Author.Tests.{eqb-true, leb-true}
use Rattle.basics.specs.Tests.{and_left, and_right, ask_less}
use Rattle.basics.specs.Lists.{all_below, below_all}
use Rattle.function_file.specs.Words.{words, word}

-- ---- two lists of numbers compared

unfoldable pub same_list : List ℕ → List ℕ → Bool
same_list [] [] = true
same_list [] (b ∷ ys) = false
same_list (a ∷ xs) [] = false
same_list (a ∷ xs) (b ∷ ys) = eqb a b && same_list xs ys

pub same-list : (xs ys : List ℕ) → same_list xs ys ≡ true → xs ≡ ys
unfolding same_list
same-list [] [] e = refl
same-list [] (b ∷ ys) e = cc
same-list (a ∷ xs) [] e = cc
same-list (a ∷ xs) (b ∷ ys) e =
    let h : a ≡ b = eqb-true a b (and_left (eqb a b) (same_list xs ys) e) in
    let t : xs ≡ ys = same-list xs ys (and_right (eqb a b) (same_list xs ys) e) in
    cc

-- ---- a word has at most 20 letters

unfoldable word_good : ℕ → Bool
word_good w = leb (length (word w)) 20

all-good : all_below word_good 38 ≡ true
unfolding all_below word_good word words
all-good = refl

word_short_in : (w : ℕ) → w < 38 → length (word w) ≤ 20
unfolding word_good
word_short_in w h = leb-true (length (word w)) 20 (below_all word_good 38 all-good w h)

word_none : (w : ℕ) → 38 ≤ w → word w ≡ []
unfolding word words
word_none w h = get_or-eq_default words [] h

pub word-short : (w : ℕ) → length (word w) ≤ 20
word-short w = ask_less w 38 (word_short_in w) (λ h. rw (word_none w h) (omega arith))
