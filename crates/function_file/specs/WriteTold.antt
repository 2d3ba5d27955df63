-- What writing comes to as numbers, for other languages, and what every lent byte then is. Definitions alone.
use Rattle.std.specs.Prelude.{◌≡◌, Result, Ok, Err, List, [], ◌∷◌, ℕ, ◌≤◌, ◌<◌, length}
use Rattle.numbers.specs.Refusals.{sides_number, buffer_number}
use Rattle.basics.specs.Tests.{either}
use Rattle.lent.specs.Lent.{output_after}
use Rattle.room.specs.declared.Room.{Room}
use Rattle.room.specs.Room.{sides_good}
use Rattle.function_file.specs.declared.WriteFault.{WriteFault}
use Rattle.function_file.specs.Written.{written_number, Writes}

-- two values are asked, of writing and of reading: the detail, and a count
abbrev pub value_count : ℕ
value_count = 2

-- fewer are number 6, at 6's place: 2 is judged before it
unfoldable pub few_number : Room → ℕ
few_number R = either (sides_good R) buffer_number sides_number

-- how many bytes were written, 0 where there is no text
abbrev pub bytes_written : Result ℕ WriteFault → ℕ
bytes_written (Ok n) = n
bytes_written (Err why) = 0

-- no answer of writing has a detail
abbrev pub written_values : Result ℕ WriteFault → List ℕ
written_values a = 0 ∷ bytes_written a ∷ []

-- The promise of `tell_write_function` and of `dustroute_write_function`. Fewer values than two touch nothing. Else there is an answer that keeps the promise
-- of `write_function`, whose number comes back; 2, 6 and 5 write no value, 0 and 18 both values and zeros behind them
pub data WriteTold (R : Room) (kinds facings text values : List ℕ) (r : ℕ) (text' values' : List ℕ) : Type 0 where
  few_to_write : length values < value_count → r ≡ few_number R → text' ≡ text → values' ≡ values → WriteTold R kinds facings text values r text' values'
  write_told : value_count ≤ length values → (a : Result ℕ WriteFault) → Writes R kinds facings text a text' → r ≡ written_number a
      → values' ≡ output_after (written_number a) (written_values a) values → WriteTold R kinds facings text values r text' values'
