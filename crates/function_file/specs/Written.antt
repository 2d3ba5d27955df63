-- What `write_function` answers, and what the lent text then holds. Definitions alone.
use Rattle.std.specs.Prelude.{◌≡◌, Result, Ok, Err, Bool, true, ◌&&◌, List, [], ◌∷◌, ℕ, ◌+◌, eqb, leb, length, get_or}
use Rattle.numbers.specs.Refusals.{done_number, sides_number, code_number, buffer_number, text_short_number}
use Rattle.basics.specs.Tests.{either}
use Rattle.lent.specs.Lent.{output_after}
use Rattle.room.specs.declared.Room.{Room}
use Rattle.room.specs.Room.{sides_good, volume}
use Rattle.function_file.specs.declared.WriteFault.{WriteFault}
use Rattle.function_file.specs.declared.WriteFault.TheVariants.{Sides, Buffer, Code, Short}
use Rattle.function_file.specs.Words.{block_known}
use Rattle.function_file.specs.Text.{text_of}

-- number 6 is due where kinds or facings are not exactly V
unfoldable pub exactly : Room → ℕ → ℕ → Bool
exactly R kinds facings = eqb kinds (volume R) && eqb facings (volume R)

-- number 5, "also for a facing its kind can't have", is due where this is false of the cells from `cell` on
unfoldable pub known_from : ℕ → List ℕ → List ℕ → Bool
known_from cell [] facings = true
known_from cell (kind ∷ kinds) facings = block_known kind (get_or facings cell 0) && known_from (cell + 1) kinds facings

-- "2, 6, 5 .., then 18 for a text output too short (6 doesn't judge it)"; exactly long enough is no refusal
unfoldable pub written : Room → List ℕ → List ℕ → ℕ → Result ℕ WriteFault
written R kinds facings room_for =
    either (sides_good R)
    (either (exactly R (length kinds) (length facings))
    (either (known_from 0 kinds facings)
    (either (leb (length (text_of R kinds facings)) room_for) (Ok (length (text_of R kinds facings))) (Err Short)) (Err Code)) (Err Buffer))
    (Err Sides)

-- the number of an answer
abbrev pub written_number : Result ℕ WriteFault → ℕ
written_number (Ok n) = done_number
written_number (Err Sides) = sides_number
written_number (Err Code) = code_number
written_number (Err Buffer) = buffer_number
written_number (Err Short) = text_short_number

-- the bytes that an answer writes
abbrev pub bytes_for : Result ℕ WriteFault → Room → List ℕ → List ℕ → List ℕ
bytes_for (Ok n) R kinds facings = text_of R kinds facings
bytes_for (Err why) R kinds facings = []

-- the text after an answer: 2, 6 and 5 touch nothing, 18 leaves zeros, a success zeros behind the text
abbrev pub text_after : Result ℕ WriteFault → Room → List ℕ → List ℕ → List ℕ → List ℕ
text_after a R kinds facings text = output_after (written_number a) (bytes_for a R kinds facings) text

-- the promise of `write_function`
pub record Writes (R : Room) (kinds facings text : List ℕ) (r : Result ℕ WriteFault) (text' : List ℕ) : Type 0 where
  pub answer : r ≡ written R kinds facings (length text)
  pub text-is : text' ≡ text_after (written R kinds facings (length text)) R kinds facings text
