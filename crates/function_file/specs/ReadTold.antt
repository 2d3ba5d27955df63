-- What reading comes to as numbers, for other languages, and what every lent byte then is. Definitions alone.
use Rattle.std.specs.Prelude.{◌≡◌, Result, Ok, Err, List, [], ◌∷◌, ℕ, ◌≤◌, ◌<◌, length}
use Rattle.lent.specs.Lent.{output_after}
use Rattle.room.specs.declared.Room.{Room}
use Rattle.function_file.specs.declared.ReadFault.{ReadFault}
use Rattle.function_file.specs.Reading.{read_number, read_detail, Comes}
use Rattle.function_file.specs.WriteTold.{value_count, few_number}

-- how many lines were read, 0 where one is bad
abbrev pub lines_read : Result ℕ ReadFault → ℕ
lines_read (Ok lines) = lines
lines_read (Err why) = 0

abbrev pub read_values : Result ℕ ReadFault → List ℕ
read_values a = read_detail a ∷ lines_read a ∷ []

-- The promise of `tell_read_function` and of `dustroute_read_function`. Fewer values than two touch nothing. Else there is an answer that keeps the promise of
-- `read_function`, whose number comes back; 2 and 6 write no value, 0 and 19 both values and zeros behind them
pub data ReadTold (R : Room) (text kinds facings values : List ℕ) (r : ℕ) (kinds' facings' values' : List ℕ) : Type 0 where
  few-to-read : length values < value_count → r ≡ few_number R → kinds' ≡ kinds → facings' ≡ facings → values' ≡ values
      → ReadTold R text kinds facings values r kinds' facings' values'
  read_told : value_count ≤ length values → (a : Result ℕ ReadFault) → Comes R text kinds facings a kinds' facings' → r ≡ read_number a
      → values' ≡ output_after (read_number a) (read_values a) values → ReadTold R text kinds facings values r kinds' facings' values'
