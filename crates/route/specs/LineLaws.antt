-- How the lines are made of pieces, and numbers of digits.
use Rattle.std.specs.Prelude.{◌≡◌, refl, List, [], ◌∷◌, ◌++◌, ℕ, zero, suc, ◌+◌, ◌-◌, ◌/◌, ◌%◌, ◌^◌, ◌≤◌, ◌<◌, length, take, drop, get_or}
use Rattle.std.proofs.Common.{sym, ap, ◌∙◌, append_assoc, append-nil, mod-eq_of_lt, mod-lt, pow-suc, div-lt_iff_lt-mul, le-div_iff_mul-le, add-one, sub-one, arith, drop_of_length-le, lt-ltb, le-ltb, eq-eqb, ne_eqb}
use Rattle.std.proofs.Math.Nat.{one-le-pow, pow-le-pow_right}
use Rattle.basics.specs.Tests.{ask_less, never}
use Rattle.basics.specs.Lists.{drop_next}
use Rattle.io.specs.Digits.{last_digits, hex_digit_ascii, IsDigitCount}
use Rattle.route.specs.Lines.{decimal_within, decimal, spaced, spaced_all, line}
use Rattle.putting.specs.Putting.{Put, Fits, PutSoFar}
use Rattle.putting.specs.PutLaws.{both, then-fits, first_fits, putting_on, putting_done, putting_fits}
use Rattle.route.specs.Marked.{if_marked, marked_from}

-- ---- numbers

glyph_digit : (d : ℕ) → d < 10 → hex_digit_ascii d ≡ 48 + d
glyph_digit d h = rw (lt-ltb d 10 h) refl

last-digit : (n : ℕ) → hex_digit_ascii (n % 10) ≡ 48 + n % 10
last-digit n = glyph_digit (n % 10) (mod-lt n (omega arith))

-- the fewest digits that hold a number are its decimal
fewest_decimal : (most k n : ℕ) → k ≤ most → IsDigitCount 10 1 n k → last_digits 10 k n ≡ decimal_within most n
unfolding decimal_within
fewest_decimal most zero n h f = never (omega (arith, f.0))
fewest_decimal zero (suc k) n h f = never (omega (arith, h))
fewest_decimal (suc most) (suc zero) n h f =
    let small : n < 10 = omega (arith, f.1) in
    rw (lt-ltb n 10 small, mod-eq_of_lt small, glyph_digit n small) refl
fewest_decimal (suc most) (suc (suc k)) n h f =
    let low : 10 ^ suc k ≤ n = simp sub-one at (f.2 (omega arith)) in
    let high : n < 10 ^ suc (suc k) = f.1 in
    let some : 1 ≤ 10 ^ k = one-le-pow k 10 (omega arith) in
    let large : 10 ≤ n = omega (arith, low, some, pow-suc 10 k) in
    let less : n / 10 < 10 ^ suc k = (div-lt_iff_lt-mul {k = 10} (omega arith)).1 (rw (pow-suc 10 (suc k)) at high) in
    let more : 10 ^ k ≤ n / 10 = (le-div_iff_mul-le {k = 10} (omega arith)).1 (rw (pow-suc 10 k) at low) in
    rw (le-ltb n 10 large, last-digit n, fewest_decimal most (suc k) (n / 10) (omega arith) (omega arith, less, λ _. simp sub-one more)) refl

-- a number of 64 bits has at most 20 digits
few_digits : (k n : ℕ) → n < 2 ^ 64 → IsDigitCount 10 1 n k → k ≤ 20
few_digits k n h f = ask_less 20 k too_many (λ few. few)
  where
    too_many : 20 < k → k ≤ 20
    too_many many =
        let low : 10 ^ (k - 1) ≤ n = f.2 (omega arith) in
        let much : 10 ^ 20 ≤ 10 ^ (k - 1) = pow-le-pow_right (omega arith) {i = 20} {j = k - 1} (omega arith) in
        never (omega arith)

pub written-decimal : (k n : ℕ) (text : List ℕ) → n < 2 ^ 64 → IsDigitCount 10 1 n k → take k text ≡ last_digits 10 k n → take k text ≡ decimal n
written-decimal k n text h f e = e ∙ fewest_decimal 20 k n (few_digits k n h f) f

-- a number: a space, then its digits
module _ (n : ℕ) {out : List ℕ} {at : ℕ} {out1 : List ℕ} {e1 : ℕ} (p : Put out at (32 ∷ []) out1 e1) {text : List ℕ} (e : text ≡ decimal n) where
  pub digits_fit : Fits out at (spaced n) → Fits out1 e1 text
  digits_fit f = rw e (then-fits p f)

  pub spaced-put : {out2 : List ℕ} {e2 : ℕ} → Put out1 e1 text out2 e2 → Put out at (spaced n) out2 e2
  spaced-put q = both p (rw e at q)

-- ---- lines of pieces

-- a word and a list of numbers
module _ (word ns : List ℕ) {out : List ℕ} {at : ℕ} {out1 : List ℕ} {e1 : ℕ} (p : Put out at word out1 e1) where
  pub listed-fit : Fits out at (line word ns) → Fits out1 e1 (spaced_all ns)
  listed-fit f = first_fits (10 ∷ []) (then-fits p f)

  pub line-end-fits : {out2 : List ℕ} {e2 : ℕ} → Fits out at (line word ns) → Put out1 e1 (spaced_all ns) out2 e2 → Fits out2 e2 (10 ∷ [])
  line-end-fits f q = then-fits q (then-fits p f)

  pub line-put : {out2 out3 : List ℕ} {e2 e3 : ℕ} → Put out1 e1 (spaced_all ns) out2 e2 → Put out2 e2 (10 ∷ []) out3 e3 → Put out at (line word ns) out3 e3
  line-put q r = both p (both q r)

-- a word and two numbers
pair : (word : List ℕ) (a b : ℕ) → line word (a ∷ b ∷ []) ≡ word ++ (spaced a ++ (spaced b ++ (10 ∷ [])))
unfolding spaced_all
pair word a b = rw (append-nil (decimal b), append_assoc (decimal a) (spaced b) (10 ∷ [])) refl

module _ (word : List ℕ) (a b : ℕ) {out : List ℕ} {at : ℕ} {out1 : List ℕ} {e1 : ℕ} (p : Put out at word out1 e1) where
  pair-rest : Fits out at (line word (a ∷ b ∷ [])) → Fits out1 e1 (spaced a ++ (spaced b ++ (10 ∷ [])))
  pair-rest f = then-fits p (rw (pair word a b) at f)

  pub pair-first-fits : Fits out at (line word (a ∷ b ∷ [])) → Fits out1 e1 (spaced a)
  pair-first-fits f = first_fits (spaced b ++ (10 ∷ [])) (pair-rest f)

  module _ {out2 : List ℕ} {e2 : ℕ} (q : Put out1 e1 (spaced a) out2 e2) where
    pair-last : Fits out at (line word (a ∷ b ∷ [])) → Fits out2 e2 (spaced b ++ (10 ∷ []))
    pair-last f = then-fits q (pair-rest f)

    pub pair-second-fits : Fits out at (line word (a ∷ b ∷ [])) → Fits out2 e2 (spaced b)
    pair-second-fits f = first_fits (10 ∷ []) (pair-last f)

    module _ {out3 : List ℕ} {e3 : ℕ} (r : Put out2 e2 (spaced b) out3 e3) where
      pub pair-end-fits : Fits out at (line word (a ∷ b ∷ [])) → Fits out3 e3 (10 ∷ [])
      pair-end-fits f = then-fits r (pair-last f)

      pub pair_put : {out4 : List ℕ} {e4 : ℕ} → Put out3 e3 (10 ∷ []) out4 e4 → Put out at (line word (a ∷ b ∷ [])) out4 e4
      pair_put s = rw (pair word a b) (both p (both q (both r s)))

-- ---- the loops

spaced_append : (xs ys : List ℕ) → spaced_all (xs ++ ys) ≡ spaced_all xs ++ spaced_all ys
unfolding spaced_all
spaced_append [] ys = refl
spaced_append (x ∷ xs) ys = ap (λ l. spaced x ++ l) (spaced_append xs ys) ∙ sym (append_assoc (spaced x) (spaced_all xs) (spaced_all ys))

spaced-next : (cells : List ℕ) (i : ℕ) → i < length cells → spaced_all (drop i cells) ≡ spaced (get_or cells i 0) ++ spaced_all (drop (i + 1) cells)
unfolding spaced_all
spaced-next cells i h = ap spaced_all (drop_next cells i 0 h)

-- cells are put, one after another
module _ {out whole : List ℕ} {at : ℕ} (cells : List ℕ) (i : ℕ) {out' : List ℕ} {end : ℕ} (g : PutSoFar out at whole (spaced_all (drop i cells)) out' end) where
  module _ (h : i < length cells) {n : ℕ} (e : n ≡ get_or cells i 0) where
    next-cell : PutSoFar out at whole (spaced n ++ spaced_all (drop (i + 1) cells)) out' end
    next-cell = rw e (rw (spaced-next cells i h) at g)

    pub cell-fits : Fits out at whole → Fits out' end (spaced n)
    cell-fits f = putting_fits (spaced_all (drop (i + 1) cells)) next-cell f

    pub cells-on : {out'' : List ℕ} {end' : ℕ} → Put out' end (spaced n) out'' end' → PutSoFar out at whole (spaced_all (drop (i + 1) cells)) out'' end'
    cells-on p = putting_on next-cell p

  pub cells-done : length cells ≤ i → Put out at whole out' end
  unfolding spaced_all
  cells-done h = putting_done (rw (drop_of_length-le cells h) at g)

marked_next : (marks : List ℕ) (i : ℕ) → i < length marks
    → spaced_all (marked_from i (drop i marks)) ≡ spaced_all (if_marked (get_or marks i 0) i) ++ spaced_all (marked_from (i + 1) (drop (i + 1) marks))
unfolding marked_from
marked_next marks i h = rw (drop_next marks i 0 h, add-one i) (spaced_append (if_marked (get_or marks i 0) i) (marked_from (suc i) (drop (suc i) marks)))

-- the marked cells are put, one after another
module _ {out whole : List ℕ} {at : ℕ} (marks : List ℕ) (i : ℕ) {out' : List ℕ} {end : ℕ} (g : PutSoFar out at whole (spaced_all (marked_from i (drop i marks))) out' end) where
  module _ (h : i < length marks) where
    next-mark : PutSoFar out at whole (spaced_all (if_marked (get_or marks i 0) i) ++ spaced_all (marked_from (i + 1) (drop (i + 1) marks))) out' end
    next-mark = rw (marked_next marks i h) at g

    pub mark-fits : Fits out at whole → Fits out' end (spaced_all (if_marked (get_or marks i 0) i))
    mark-fits f = putting_fits (spaced_all (marked_from (i + 1) (drop (i + 1) marks))) next-mark f

    pub marks-on : {out'' : List ℕ} {end' : ℕ} → Put out' end (spaced_all (if_marked (get_or marks i 0) i)) out'' end'
        → PutSoFar out at whole (spaced_all (marked_from (i + 1) (drop (i + 1) marks))) out'' end'
    marks-on p = putting_on next-mark p

  pub marks-done : length marks ≤ i → Put out at whole out' end
  unfolding spaced_all marked_from
  marks-done h = putting_done (rw (drop_of_length-le marks h) at g)

pub if_unmarked : (mark cell : ℕ) → (mark ≡ 1 → ⊥) → spaced_all (if_marked mark cell) ≡ []
unfolding spaced_all
if_unmarked mark cell h = rw (ne_eqb mark 1 h) refl

pub if_marked_lem : (mark cell : ℕ) → mark ≡ 1 → spaced_all (if_marked mark cell) ≡ spaced cell
unfolding spaced_all
if_marked_lem mark cell h = rw (eq-eqb mark 1 h) (append-nil (spaced cell))
