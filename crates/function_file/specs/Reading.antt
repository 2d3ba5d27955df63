-- Which lines are good, what reading comes to, and what `read_function` leaves in lent memory. Definitions alone.
use Rattle.std.specs.Prelude.{◌≡◌, Result, Ok, Err, ◌≢◌, Bool, true, false, ◌&&◌, List, [], ◌++◌, ℕ, ◌+◌, ◌≤◌, ◌<◌, leb, length, set, replicate}
use Rattle.numbers.specs.Refusals.{done_number, sides_number, buffer_number, bad_line_number}
use Rattle.room.specs.declared.Room.{Room}
use Rattle.room.specs.Room.{sides_good, volume}
use Rattle.function_file.specs.declared.ReadFault.{ReadFault}
use Rattle.function_file.specs.declared.ReadFault.TheVariants.{Sides, Buffer, Bad}
use Rattle.function_file.specs.Words.{block_known}
use Rattle.function_file.specs.Text.{line_of}

-- "A line is good only if an export could have it there": its block is known and no Air, in a cell of the room above that of the line before
pub record Lawful (R : Room) (next cell kind facing : ℕ) : Type 0 where
  pub from : next ≤ cell
  pub inside : cell < volume R
  pub some : kind ≢ 0
  pub known : block_known kind facing ≡ true

-- what a text comes to: so many lines, with the kinds and facings that they lay; or the number of the first bad line, from 1
pub data Reading : Type 0 where
  whole : ℕ → List ℕ → List ℕ → Reading
  bad : ℕ → Reading

-- what is left of a text comes to `o`: the next cell may be `next`, so many lines are read, and what they lay is in `kinds` and `facings`
pub data Reads (R : Room) (o : Reading) : ℕ → ℕ → List ℕ → List ℕ → List ℕ → Type 0 where
  ended : {next lines : ℕ} {text kinds facings : List ℕ} → text ≡ [] → o ≡ whole lines kinds facings → Reads R o next lines text kinds facings
  line : {next lines : ℕ} {text kinds facings : List ℕ} (cell kind facing : ℕ) (rest : List ℕ)
      → Lawful R next cell kind facing → text ≡ line_of R cell kind facing ++ rest
      → Reads R o (cell + 1) (lines + 1) rest (set kinds cell kind) (set facings cell facing)
      → Reads R o next lines text kinds facings
  stopped : {next lines : ℕ} {text kinds facings : List ℕ}
      → text ≢ []
      → ((cell kind facing : ℕ) (rest : List ℕ) → Lawful R next cell kind facing → text ≡ line_of R cell kind facing ++ rest → ⊥)
      → o ≡ bad (lines + 1)
      → Reads R o next lines text kinds facings

-- number 6 is due where kinds or facings are under V
unfoldable pub enough : Room → ℕ → ℕ → Bool
enough R kinds facings = leb (volume R) kinds && leb (volume R) facings

abbrev pub read_answer : Reading → Result ℕ ReadFault
read_answer (whole lines kinds facings) = Ok lines
read_answer (bad number) = Err (Bad number)

-- the number of each answer, and its detail: 19 comes "with the number of the first bad line", from 1
abbrev pub read_number : Result ℕ ReadFault → ℕ
read_number (Ok lines) = done_number
read_number (Err Sides) = sides_number
read_number (Err Buffer) = buffer_number
read_number (Err (Bad number)) = bad_line_number

abbrev pub read_detail : Result ℕ ReadFault → ℕ
read_detail (Ok lines) = 0
read_detail (Err Sides) = 0
read_detail (Err Buffer) = 0
read_detail (Err (Bad number)) = number

-- the kinds afterwards, and the facings: all zero after a bad line
abbrev pub kinds_after : Reading → List ℕ → List ℕ
kinds_after (whole lines kinds facings) zeros = kinds
kinds_after (bad number) zeros = zeros

abbrev pub facings_after : Reading → List ℕ → List ℕ
facings_after (whole lines kinds facings) zeros = facings
facings_after (bad number) zeros = zeros

abbrev pub zeros_for : List ℕ → List ℕ
zeros_for buffer = replicate (length buffer) 0

-- the promise of `read_function`: 2, then 6, which touch nothing; then the text
pub data Comes (R : Room) (text kinds facings : List ℕ) (r : Result ℕ ReadFault) (kinds' facings' : List ℕ) : Type 0 where
  sides : sides_good R ≡ false → r ≡ Err Sides → kinds' ≡ kinds → facings' ≡ facings → Comes R text kinds facings r kinds' facings'
  buffer : sides_good R ≡ true → enough R (length kinds) (length facings) ≡ false → r ≡ Err Buffer → kinds' ≡ kinds → facings' ≡ facings
      → Comes R text kinds facings r kinds' facings'
  read : sides_good R ≡ true → enough R (length kinds) (length facings) ≡ true
      → (o : Reading) → Reads R o 0 0 text (zeros_for kinds) (zeros_for facings)
      → r ≡ read_answer o → kinds' ≡ kinds_after o (zeros_for kinds) → facings' ≡ facings_after o (zeros_for facings)
      → Comes R text kinds facings r kinds' facings'
