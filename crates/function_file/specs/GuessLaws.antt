-- Laws of guessing: how the code comes by the bytes, and that the line of a block is taken for that block.
use Rattle.std.specs.Prelude.{◌≡◌, ◌≢◌, Bool, false, ◌&&◌, not, List, [], ◌∷◌, ◌++◌, ℕ, ◌+◌, ◌/◌, ◌%◌, ◌≤◌, ◌<◌, eqb, length, take}
use Rattle.std.proofs.Math.Path.{refl, sym, ap}
use Rattle.std.proofs.Common.{◌∙◌, append_assoc, drop-drop}
use Rattle.std.proofs.Math.Bool.{true}
use native.Mathlib.Omega.{arith}
use Rattle.std.proofs.Math.ListN.{drop}
use Rattle.std.specs.Cmp.Lexicographic.{pointwise}
use borrow.Author.Tests.{eq-eqb, ne_eqb, eqb-true, lt-ltb, le-ltb}
use Rattle.basics.specs.Tests.{either, and_left, and_right, ask_less, ask_same}
use Rattle.basics.specs.Lists.{all_below, below_all}
use Rattle.room.specs.declared.Pos.{Pos}
use Rattle.room.specs.Room.{at}
use Rattle.function_file.specs.declared.Guess.{Guess}
use Rattle.function_file.specs.Words.{words, word, hundreds, tens, ones, number_text, least_facing, most_facing, block_known, name_word, open_word, opposite, shown_facing, side_word, close_word, state_text}
use Rattle.function_file.specs.Letters.{same_list, same-list}
use Rattle.function_file.specs.Text.{place_text, line_at}
use Rattle.function_file.specs.WriteLaws.{kind-low, facing-low}
use Rattle.function_file.specs.Guessing.{guessed_number, guessed_size, stone_by, redstone_by, name_by, guessed_name, kind_by, side_place, facing_by, guessed_kind, guessed_facing, behind_number, guessed, starts_with}

-- ---- what starts with what

-- what the library's `starts_with` answers
pub starts-library : (l s : List ℕ) → pointwise eqb l (take (length l) s) ≡ starts_with l s
unfolding starts_with
starts-library [] s = refl
starts-library (a ∷ l) [] = refl
starts-library (a ∷ l) (b ∷ s) = ap (λ t. eqb a b && t) (starts-library l s)

pub starts_append : (l s : List ℕ) → starts_with l (l ++ s) ≡ true
unfolding starts_with
starts_append [] s = refl
starts_append (a ∷ l) s = rw (eq-eqb a a refl) (starts_append l s)

pub starts-split : (l s : List ℕ) → starts_with l s ≡ true → s ≡ l ++ drop (length l) s
unfolding starts_with
starts-split [] s e = refl
starts-split (a ∷ l) [] e = cc
starts-split (a ∷ l) (b ∷ s) e =
    let h : a ≡ b = eqb-true a b (and_left (eqb a b) (starts_with l s) e) in
    let t : s ≡ l ++ drop (length l) s = starts-split l s (and_right (eqb a b) (starts_with l s) e) in
    rw (← h) (ap (λ k. a ∷ k) t)

-- ---- the code's places

made : List ℕ → List ℕ → List ℕ → List ℕ → Guess
made x y z s = record { place = at (guessed_number x) (guessed_number y) (guessed_number z); kind = guessed_kind s; facing = guessed_facing s }

guessed-made : (s : List ℕ) → guessed s ≡ made (drop 8 s) (behind_number (drop 8 s)) (behind_number (behind_number (drop 8 s))) (behind_number (behind_number (behind_number (drop 8 s))))
unfolding guessed made
guessed-made s = refl

made-same : {x x' y y' z z' s s' : List ℕ} → x ≡ x' → y ≡ y' → z ≡ z' → s ≡ s' → made x y z s ≡ made x' y' z' s'
made-same a b c d = rw (a, b, c, d)

behind-is : (text : List ℕ) (s : List ℕ) (n a : ℕ) → s ≡ drop n text → a ≡ guessed_size (drop n text) → behind_number s ≡ drop (n + a) text
behind-is text s n a e q = ap behind_number e ∙ ap (λ k. drop k (drop n text)) (sym q) ∙ drop-drop a n text

pub guess_is : (text : List ℕ) (n : ℕ) {a b c x y z k f : ℕ}
    → a ≡ guessed_size (drop (n + 8) text) → b ≡ guessed_size (drop (n + 8 + a) text) → c ≡ guessed_size (drop (n + 8 + a + b) text)
    → x ≡ guessed_number (drop (n + 8) text) → y ≡ guessed_number (drop (n + 8 + a) text) → z ≡ guessed_number (drop (n + 8 + a + b) text)
    → k ≡ guessed_kind (drop (n + 8 + a + b + c) text) → f ≡ guessed_facing (drop (n + 8 + a + b + c) text)
    → ◌≡◌ {A = Guess} (record { place = at x y z; kind = k; facing = f }) (guessed (drop n text))
unfolding made
guess_is text n {a} {b} {c} ea eb ec ex ey ez ek ef =
    let e1 : drop 8 (drop n text) ≡ drop (n + 8) text = drop-drop 8 n text in
    let e2 : behind_number (drop 8 (drop n text)) ≡ drop (n + 8 + a) text = behind-is text (drop 8 (drop n text)) (n + 8) a e1 ea in
    let e3 : behind_number (behind_number (drop 8 (drop n text))) ≡ drop (n + 8 + a + b) text = behind-is text (behind_number (drop 8 (drop n text))) (n + 8 + a) b e2 eb in
    let e4 : behind_number (behind_number (behind_number (drop 8 (drop n text)))) ≡ drop (n + 8 + a + b + c) text = behind-is text (behind_number (behind_number (drop 8 (drop n text)))) (n + 8 + a + b) c e3 ec in
    rw (ex, ey, ez, ek, ef) (sym (guessed-made (drop n text) ∙ made-same e1 e2 e3 e4))

-- ---- the text of a number below 1000, by how many digits it has

digit_good : ℕ → Bool
digit_good d = same_list (word d) ((48 + d) ∷ [])

digits_good : all_below digit_good 10 ≡ true
unfolding all_below digit_good same_list word words
digits_good = refl

digit-word : (d : ℕ) → d < 10 → word d ≡ (48 + d) ∷ []
unfolding digit_good
digit-word d h = same-list (word d) ((48 + d) ∷ []) (below_all digit_good 10 digits_good d h)

no_word_lem : word 10 ≡ []
unfolding word words
no_word_lem = refl

tilde_word : word 11 ≡ 32 ∷ 126 ∷ []
unfolding word words
tilde_word = refl

module _ (n : ℕ) where
  pub text-none : n ≡ 0 → number_text n ≡ 32 ∷ 126 ∷ []
  unfolding number_text hundreds tens ones
  text-none h = rw (lt-ltb n 100 (omega arith), lt-ltb n 10 (omega arith), eq-eqb n 0 h, no_word_lem, tilde_word)

  pub text-one : n ≢ 0 → n < 10 → number_text n ≡ 32 ∷ 126 ∷ (48 + n % 10) ∷ []
  unfolding number_text hundreds tens ones
  text-one z h = rw (lt-ltb n 100 (omega arith), lt-ltb n 10 h, ne_eqb n 0 z, no_word_lem, tilde_word, digit-word (n % 10) (omega arith))

  pub text-two : 10 ≤ n → n < 100 → number_text n ≡ 32 ∷ 126 ∷ (48 + n / 10 % 10) ∷ (48 + n % 10) ∷ []
  unfolding number_text hundreds tens ones
  text-two l h = rw (lt-ltb n 100 h, le-ltb n 10 l, ne_eqb n 0 (λ e. omega arith), no_word_lem, tilde_word, digit-word (n / 10 % 10) (omega arith), digit-word (n % 10) (omega arith))

  pub text-three : 100 ≤ n → n < 1000 → number_text n ≡ 32 ∷ 126 ∷ (48 + n / 100) ∷ (48 + n / 10 % 10) ∷ (48 + n % 10) ∷ []
  unfolding number_text hundreds tens ones
  text-three l h = rw (le-ltb n 100 l, le-ltb n 10 (omega arith), ne_eqb n 0 (λ e. omega arith), tilde_word, digit-word (n / 100) (omega arith), digit-word (n / 10 % 10) (omega arith), digit-word (n % 10) (omega arith))

-- a digit is no blank
not_blank : (d : ℕ) → eqb (48 + d) 32 ≡ false
not_blank d = ne_eqb (48 + d) 32 (λ e. omega arith)

-- a number's text is taken for that number, and what is behind it is left
pub record NumberTaken (n : ℕ) (s left : List ℕ) : Type 0 where
  pub number : guessed_number s ≡ n
  pub behind : behind_number s ≡ left

module _ (n : ℕ) (r : List ℕ) where
  taken_none : n ≡ 0 → NumberTaken n (32 ∷ 126 ∷ 32 ∷ r) (32 ∷ r)
  unfolding guessed_number guessed_size
  taken_none h = record { number = sym h; behind = refl }

  taken-one : n < 10 → NumberTaken n (32 ∷ 126 ∷ (48 + n % 10) ∷ 32 ∷ r) (32 ∷ r)
  unfolding guessed_number guessed_size
  taken-one h = record { number = rw (not_blank (n % 10)) (omega arith); behind = rw (not_blank (n % 10)) }

  taken-two : n < 100 → NumberTaken n (32 ∷ 126 ∷ (48 + n / 10 % 10) ∷ (48 + n % 10) ∷ 32 ∷ r) (32 ∷ r)
  unfolding guessed_number guessed_size
  taken-two h = record { number = rw (not_blank (n / 10 % 10), not_blank (n % 10)) (omega arith); behind = rw (not_blank (n / 10 % 10), not_blank (n % 10)) }

  taken-three : n < 1000 → NumberTaken n (32 ∷ 126 ∷ (48 + n / 100) ∷ (48 + n / 10 % 10) ∷ (48 + n % 10) ∷ 32 ∷ r) (32 ∷ r)
  unfolding guessed_number guessed_size
  taken-three h = record {
    number = rw (not_blank (n / 100), not_blank (n / 10 % 10), not_blank (n % 10)) (omega arith);
    behind = rw (not_blank (n / 100), not_blank (n / 10 % 10), not_blank (n % 10));
  }

  pub number-taken : n < 1000 → NumberTaken n (number_text n ++ (32 ∷ r)) (32 ∷ r)
  number-taken h =
      ask_same n 0 (λ e. rw (text-none n e) (taken_none e))
      (λ z. ask_less n 10 (λ l. rw (text-one n z l) (taken-one l))
      (λ l. ask_less n 100 (λ m. rw (text-two n l m) (taken-two m)) (λ m. rw (text-three n m h) (taken-three h))))

-- ---- the text of a state

-- a state with what stands around it
state_span : ℕ → ℕ → List ℕ → List ℕ
state_span kind facing rest = word 13 ++ (state_text kind facing ++ (word 14 ++ rest))

state_good : List ℕ → ℕ → ℕ → Bool
state_good rest kind facing =
    either (block_known kind facing && not (eqb kind 0)) (eqb (guessed_kind (state_span kind facing rest)) kind && eqb (guessed_facing (state_span kind facing rest)) facing) true

kind_good : List ℕ → ℕ → Bool
kind_good rest kind = all_below (state_good rest kind) 7

states_good : (rest : List ℕ) → all_below (kind_good rest) 13 ≡ true
unfolding all_below kind_good state_good state_span word words state_text name_word open_word opposite shown_facing side_word close_word block_known least_facing most_facing guessed_kind guessed_facing guessed_name stone_by redstone_by name_by kind_by side_place facing_by
states_good rest = refl

module _ (kind facing : ℕ) (known : block_known kind facing ≡ true) (some : kind ≢ 0) (rest : List ℕ) where
  state-taken : (eqb (guessed_kind (state_span kind facing rest)) kind && eqb (guessed_facing (state_span kind facing rest)) facing) ≡ true
  unfolding kind_good state_good
  state-taken =
      let t : state_good rest kind facing ≡ true = below_all (state_good rest kind) 7 (below_all (kind_good rest) 13 (states_good rest) kind (omega (arith, kind-low kind facing known))) facing (omega (arith, facing-low kind facing known)) in
      rw (known, ne_eqb kind 0 some) at t

  state-kind : guessed_kind (state_span kind facing rest) ≡ kind
  state-kind = eqb-true (guessed_kind (state_span kind facing rest)) kind (and_left (eqb (guessed_kind (state_span kind facing rest)) kind) (eqb (guessed_facing (state_span kind facing rest)) facing) state-taken)

  state-facing : guessed_facing (state_span kind facing rest) ≡ facing
  state-facing = eqb-true (guessed_facing (state_span kind facing rest)) facing (and_right (eqb (guessed_kind (state_span kind facing rest)) kind) (eqb (guessed_facing (state_span kind facing rest)) facing) state-taken)

-- ---- the line of a block is taken for that block, whatever follows

taken-before : (n : ℕ) → n < 1000 → (left r : List ℕ) → left ≡ 32 ∷ r → NumberTaken n (number_text n ++ left) left
taken-before n h left r e = rw e (number-taken n r h)

number-head : (n : ℕ) (left : List ℕ) → number_text n ++ left ≡ 32 ∷ drop 1 (number_text n ++ left)
unfolding number_text word words
number-head n left = refl

state-head : (kind facing : ℕ) (rest : List ℕ) → state_span kind facing rest ≡ 32 ∷ drop 1 (state_span kind facing rest)
unfolding state_span word words
state-head kind facing rest = refl

line-split : (p : Pos) (kind facing : ℕ) (rest : List ℕ)
    → line_at p kind facing ++ rest ≡ word 12 ++ (number_text p.x ++ (number_text p.y ++ (number_text p.z ++ state_span kind facing rest)))
unfolding line_at place_text state_span
line-split p kind facing rest = simp append_assoc

first-behind : (left : List ℕ) → drop 8 (word 12 ++ left) ≡ left
unfolding word words
first-behind left = refl

pub line-long : (p : Pos) (kind facing : ℕ) → 1 ≤ length (line_at p kind facing)
unfolding line_at word words
line-long p kind facing = omega arith

module _ (p : Pos) (kind facing : ℕ) (known : block_known kind facing ≡ true) (some : kind ≢ 0) (rest : List ℕ) (x-low : p.x < 1000) (y-low : p.y < 1000) (z-low : p.z < 1000) where
  pub line-guessed : guessed (line_at p kind facing ++ rest) ≡ record { place = p; kind = kind; facing = facing }
  unfolding made
  line-guessed =
      let st = state_span kind facing rest in
      let z = number_text p.z ++ st in
      let y = number_text p.y ++ z in
      let x = number_text p.x ++ y in
      let s = line_at p kind facing ++ rest in
      let tz : NumberTaken p.z z st = taken-before p.z z-low st (drop 1 st) (state-head kind facing rest) in
      let ty : NumberTaken p.y y z = taken-before p.y y-low z (drop 1 z) (number-head p.z st) in
      let tx : NumberTaken p.x x y = taken-before p.x x-low y (drop 1 y) (number-head p.y z) in
      let e1 : drop 8 s ≡ x = ap (drop 8) (line-split p kind facing rest) ∙ first-behind x in
      let e2 : behind_number (drop 8 s) ≡ y = ap behind_number e1 ∙ tx.behind in
      let e3 : behind_number (behind_number (drop 8 s)) ≡ z = ap behind_number e2 ∙ ty.behind in
      let e4 : behind_number (behind_number (behind_number (drop 8 s))) ≡ st = ap behind_number e3 ∙ tz.behind in
      let m : made x y z st ≡ record { place = p; kind = kind; facing = facing } = rw (tx.number, ty.number, tz.number, state-kind kind facing known some rest, state-facing kind facing known some rest) in
      guessed-made s ∙ made-same e1 e2 e3 e4 ∙ m
