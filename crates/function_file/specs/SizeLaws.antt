-- The text of a room is as long as was counted, and no line is longer than 77 bytes.
use Rattle.std.specs.Prelude.{◌≡◌, ◌≢◌, Bool, ◌&&◌, not, ℕ, ◌+◌, ◌*◌, ◌≤◌, ◌<◌, eqb, leb, ltb}
use Rattle.std.proofs.Math.Path.{refl, ap}
use Rattle.std.proofs.Common.{◌∙◌, le_trans, mul-le-mul}
use Rattle.std.proofs.Math.Bool.{true, false}
use mathlib.Core.List.{List, [], ◌∷◌, ◌++◌}
use native.Mathlib.Omega.{arith}
use Rattle.std.proofs.Math.ListN.{length, get_or, length-append}
use borrow.Author.Tests.{eq-eqb, ne_eqb, eqb-true, leb-true, lt-ltb, le-ltb}
use Rattle.basics.specs.Tests.{either, ask, ask_less, ask_same, and_left, and_right}
use Rattle.basics.specs.Lists.{all_below, below_all}
use Rattle.room.specs.declared.Room.{Room}
use Rattle.room.specs.declared.Pos.{Pos}
use Rattle.room.specs.Room.{max_volume, Good, Within, volume, pos_of}
use Rattle.room.specs.RoomLaws.{pos_in}
use Rattle.function_file.specs.Words.{words, word, number_text, least_facing, most_facing, block_known, name_word, open_word, opposite, shown_facing, side_word, close_word, state_text}
use Rattle.function_file.specs.Text.{place_text, line_at, block_text, text_from, text_of}
use Rattle.function_file.specs.Written.{known_from}
use Rattle.function_file.specs.WriteLaws.{kind-low, facing-low, place-small}
use Rattle.function_file.specs.GuessLaws.{text-none, text-one, text-two, text-three}
use Rattle.function_file.specs.Size.{number_size, name_sizes, side_sizes, name_size, mount_size, bracket_size, state_size, line_size, block_size, size_from, size_of, blocks, line_most}

-- ---- a number

module _ (n : ℕ) where
  pub number_size_lem : n < 1000 → length (number_text n) ≡ number_size n
  unfolding number_size
  number_size_lem h =
      ask_same n 0 (λ e. ap length (text-none n e) ∙ rw (eq-eqb n 0 e))
      (λ z. ask_less n 10 (λ l. ap length (text-one n z l) ∙ rw (ne_eqb n 0 z, lt-ltb n 10 l))
      (λ l. ask_less n 100 (λ m. ap length (text-two n l m) ∙ rw (ne_eqb n 0 z, le-ltb n 10 l, lt-ltb n 100 m))
      (λ m. ap length (text-three n m h) ∙ rw (ne_eqb n 0 z, le-ltb n 10 l, le-ltb n 100 m))))

  -- by its digits
  one-digit : n < 10 → number_size n ≤ 3
  unfolding number_size
  one-digit h = rw (lt-ltb n 10 h) (ask (eqb n 0) (λ t. rw t (omega arith)) (λ f. rw f (omega arith)))

  two_digits : n < 100 → number_size n ≤ 4
  unfolding number_size
  two_digits h = rw (lt-ltb n 100 h) (by_tests (eqb n 0) (ltb n 10))
    where
      by_tests : (a b : Bool) → either {X = ℕ} a 2 (either b 3 4) ≤ 4
      by_tests true b = omega arith
      by_tests false true = omega arith
      by_tests false false = omega arith

  three_digits : number_size n ≤ 5
  unfolding number_size
  three_digits = by_tests (eqb n 0) (ltb n 10) (ltb n 100)
    where
      by_tests : (a b c : Bool) → either {X = ℕ} a 2 (either b 3 (either c 4 5)) ≤ 5
      by_tests true b c = omega arith
      by_tests false true c = omega arith
      by_tests false false true = omega arith
      by_tests false false false = omega arith

-- The numbers of a position in a room take at most 13 bytes: where two of them have three digits the third has one, since the cells would be too many
-- otherwise
module _ {R : Room} (good : Good R) {p : Pos} (w : Within R p) where
  crowded : (a b c : ℕ) → a ≤ R.wide → b ≤ R.high → c ≤ R.deep → a * b * c ≤ max_volume
  crowded a b c h k l = le_trans (mul-le-mul (mul-le-mul h k) l) good.few

  place-most : number_size p.x + number_size p.y + number_size p.z ≤ 13
  place-most =
      ask_less p.x 100
      (λ a. ask_less p.y 100
      (λ b. omega (arith, two_digits p.x a, two_digits p.y b, three_digits p.z))
      (λ b. ask_less p.z 100
      (λ c. omega (arith, two_digits p.x a, three_digits p.y, two_digits p.z c))
      (λ c. ask_less p.x 10
      (λ d. omega (arith, one-digit p.x d, three_digits p.y, three_digits p.z))
      (λ d. absurd (omega (arith, crowded 11 101 101 (omega (arith, w.x_in)) (omega (arith, w.y_in)) (omega (arith, w.z_in))))))))
      (λ a. ask_less p.y 100
      (λ b. ask_less p.z 100
      (λ c. omega (arith, three_digits p.x, two_digits p.y b, two_digits p.z c))
      (λ c. ask_less p.y 10
      (λ d. omega (arith, three_digits p.x, one-digit p.y d, three_digits p.z))
      (λ d. absurd (omega (arith, crowded 101 11 101 (omega (arith, w.x_in)) (omega (arith, w.y_in)) (omega (arith, w.z_in)))))))
      (λ b. ask_less p.z 10
      (λ d. omega (arith, three_digits p.x, three_digits p.y, one-digit p.z d))
      (λ d. absurd (omega (arith, crowded 101 101 11 (omega (arith, w.x_in)) (omega (arith, w.y_in)) (omega (arith, w.z_in)))))))

-- ---- a state: computed, kind by kind and facing by facing

state_counted : ℕ → ℕ → Bool
state_counted kind facing = either (block_known kind facing && not (eqb kind 0)) (eqb (length (state_text kind facing)) (state_size kind facing) && leb (state_size kind facing) 36) true

kind_counted : ℕ → Bool
kind_counted kind = all_below (state_counted kind) 7

states_counted : all_below kind_counted 13 ≡ true
unfolding all_below kind_counted state_counted word words state_text name_word open_word opposite shown_facing side_word close_word block_known least_facing most_facing state_size name_size name_sizes side_sizes mount_size bracket_size
states_counted = refl

module _ (kind facing : ℕ) (known : block_known kind facing ≡ true) (some : kind ≢ 0) where
  state-counted : (eqb (length (state_text kind facing)) (state_size kind facing) && leb (state_size kind facing) 36) ≡ true
  unfolding kind_counted state_counted
  state-counted =
      let t : state_counted kind facing ≡ true = below_all (state_counted kind) 7 (below_all kind_counted 13 states_counted kind (omega (arith, kind-low kind facing known))) facing (omega (arith, facing-low kind facing known)) in
      rw (known, ne_eqb kind 0 some) at t

  state-size : length (state_text kind facing) ≡ state_size kind facing
  state-size = eqb-true (length (state_text kind facing)) (state_size kind facing) (and_left (eqb (length (state_text kind facing)) (state_size kind facing)) (leb (state_size kind facing) 36) state-counted)

  state-most : state_size kind facing ≤ 36
  state-most = leb-true (state_size kind facing) 36 (and_right (eqb (length (state_text kind facing)) (state_size kind facing)) (leb (state_size kind facing) 36) state-counted)

-- ---- a line

frame_sizes : (length (word 12) ≡ 8) × (length (word 13) ≡ 11) × (length (word 14) ≡ 9)
unfolding word words
frame_sizes = (refl, refl, refl)

module _ (p : Pos) (kind facing : ℕ) (known : block_known kind facing ≡ true) (some : kind ≢ 0) where
  pub line-size : p.x < 1000 → p.y < 1000 → p.z < 1000 → length (line_at p kind facing) ≡ line_size p kind facing
  unfolding line_at place_text line_size
  line-size a b c =
      let st = state_text kind facing in
      let behind = word 13 ++ (st ++ word 14) in
      let place = number_text p.x ++ (number_text p.y ++ number_text p.z) in
      omega
      (arith, frame_sizes.0, frame_sizes.1, frame_sizes.2, length-append (word 12) (place ++ behind), length-append place behind, length-append (number_text p.x) (number_text p.y ++ number_text p.z), length-append (number_text p.y) (number_text p.z), length-append (word 13) (st ++ word 14), length-append st (word 14), number_size_lem p.x a, number_size_lem p.y b, number_size_lem p.z c, state-size kind facing known some)

  line-most : number_size p.x + number_size p.y + number_size p.z ≤ 13 → line_size p kind facing ≤ line_most
  unfolding line_size
  line-most h = omega (arith, h, state-most kind facing known some)

-- ---- a cell, and all cells

module _ {R : Room} (good : Good R) where
  module _ {cell : ℕ} (h : cell < volume R) (kind facing : ℕ) (known : block_known kind facing ≡ true) where
    block_size_lem : length (block_text R cell kind facing) ≡ block_size R cell kind facing
    unfolding block_text block_size
    block_size_lem =
        let s = place-small good h in
        ask_same kind 0 (λ z. rw (eq-eqb kind 0 z)) (λ z. rw (ne_eqb kind 0 z) (line-size (pos_of R cell) kind facing known z s.0 s.1 s.2))

    block-most : (rest : ℕ) → block_size R cell kind facing + line_most * rest ≤ line_most * either (eqb kind 0) rest (1 + rest)
    unfolding block_size
    block-most rest =
        let w = pos_in R good cell h in
        ask_same kind 0 (λ z. rw (eq-eqb kind 0 z) (omega arith))
        (λ z. rw (ne_eqb kind 0 z)
        (omega (arith, line-most (pos_of R cell) kind facing known z (place-most good w))))

  module _ (facings : List ℕ) where
    size-from : (kinds : List ℕ) (cell : ℕ) → cell + length kinds ≤ volume R → known_from cell kinds facings ≡ true → length (text_from R cell kinds facings) ≡ size_from R cell kinds facings
    unfolding text_from size_from known_from
    size-from [] cell v k = refl
    size-from (kind ∷ kinds) cell v k =
        let f = get_or facings cell 0 in
        let here = block_size_lem {cell = cell} (omega arith) kind f (and_left (block_known kind f) (known_from (cell + 1) kinds facings) k) in
        let on = size-from kinds (cell + 1) (omega arith) (and_right (block_known kind f) (known_from (cell + 1) kinds facings) k) in
        length-append (block_text R cell kind f) (text_from R (cell + 1) kinds facings) ∙ rw (here, on)

    most-from : (kinds : List ℕ) (cell : ℕ) → cell + length kinds ≤ volume R → known_from cell kinds facings ≡ true → size_from R cell kinds facings ≤ line_most * blocks kinds
    unfolding size_from known_from blocks
    most-from [] cell v k = omega arith
    most-from (kind ∷ kinds) cell v k =
        let f = get_or facings cell 0 in
        let here = block-most {cell = cell} (omega arith) kind f (and_left (block_known kind f) (known_from (cell + 1) kinds facings) k) (blocks kinds) in
        let on = most-from kinds (cell + 1) (omega arith) (and_right (block_known kind f) (known_from (cell + 1) kinds facings) k) in
        omega (arith, here, on)

-- ---- the whole

module _ {R : Room} (good : Good R) (kinds facings : List ℕ) (long : length kinds ≡ volume R) (known : known_from 0 kinds facings ≡ true) where
  pub text-size : length (text_of R kinds facings) ≡ size_of R kinds facings
  text-size = size-from good facings kinds 0 (omega (arith, long)) known

  pub text-most : size_of R kinds facings ≤ line_most * blocks kinds
  text-most = most-from good facings kinds 0 (omega (arith, long)) known
