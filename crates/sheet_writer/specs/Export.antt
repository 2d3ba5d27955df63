-- What the writer returns to other languages, and what every lent number then holds: its answer as numbers. Definitions alone.
use Rattle.std.specs.Prelude.{◌≡◌, Bool, ◌&&◌, List, [], ◌∷◌, ℕ, ◌/◌, leb, eqb, length, get_or}
use Rattle.numbers.specs.Refusals.{sheet_number}
use Rattle.basics.specs.Tests.{either}
use Rattle.lent.specs.Lent.{output_after}
use Rattle.room.specs.declared.Room.{Room}
use Rattle.room.specs.declared.RouterConfig.{RouterConfig}
use Rattle.job_sheet.specs.declared.Endpoint.{Endpoint}
use Rattle.job_sheet.specs.declared.Sink.{Sink}
use Rattle.job_sheet.specs.declared.Sinks.{Sinks}
use Rattle.job_sheet.specs.Sheet.{max_sinks, sinks_of}
use Rattle.job_sheet.specs.Places.{many}
use Rattle.sheet_writer.specs.Writer.{Parts, parts, position_from, contents_of, written, whole, number_due}
use Rattle.sheet_writer.specs.Narrow.{code_of}

abbrev pub room_of : ℕ → ℕ → ℕ → Room
room_of wide high deep = record { wide = wide; high = high; deep = deep }

abbrev pub config_of : ℕ → ℕ → ℕ → ℕ → RouterConfig
config_of limit horizontal stair support = record {
  limit = record { 0 = limit };
  horizontal = record { 0 = horizontal };
  stair = record { 0 = stair };
  support = record { 0 = support };
}

-- "five numbers": x, y, z, port, facing. A code that no byte holds is told as 255, which is no code
abbrev pub end_numbers : ℕ
end_numbers = 5

abbrev pub end_from : List ℕ → Endpoint
end_from l = record { at = position_from l 0; port = code_of (get_or l 3 0); facing = code_of (get_or l 4 0) }

-- of a sink "6, the last its tail limit"
abbrev pub sink_numbers : ℕ
sink_numbers = 6

abbrev pub sink_from : List ℕ → Sink
sink_from l = record { end = end_from l; tail = get_or l 5 0 }

unfoldable pub sinks_from : List ℕ → Sinks
sinks_from l = sinks_of (many sink_from sink_numbers (length l / sink_numbers) l)

-- number 1's reasons in what tells the ends: "a source of another length", sinks that are no whole number of records, or too many
unfoldable pub ends_good : ℕ → ℕ → Bool
ends_good source sinks = eqb source end_numbers && (whole sink_numbers sinks && leb (sinks / sink_numbers) max_sinks)

-- two values: the detail, which is 0, and how many bytes were written
abbrev pub value_count : ℕ
value_count = 2

-- the number that is due. Fewer values than two are number 6, at 6's place, as if no output were lent
unfoldable pub told_number : Parts → Bool → ℕ → ℕ → ℕ
told_number P well lent values = either well (number_due P (either (leb value_count values) lent 0)) sheet_number

-- the promise: the number comes back; "none touches the output", nor the values
pub record Told (P : Parts) (well : Bool) (sheet values : List ℕ) (r : ℕ) (sheet' values' : List ℕ) : Type 0 where
  pub number : r ≡ told_number P well (length sheet) (length values)
  pub sheet-is : sheet' ≡ output_after r (written (contents_of P)) sheet
  pub values-are : values' ≡ output_after r (0 ∷ length (written (contents_of P)) ∷ []) values

-- the parts that numbers tell
abbrev pub parts_told : ℕ → ℕ → ℕ → ℕ → ℕ → ℕ → ℕ → ℕ → List ℕ → List ℕ → List ℕ → List ℕ → List ℕ → List ℕ → List ℕ → Parts
parts_told wide high deep limit horizontal stair support run b c l t r source sinks =
    parts (room_of wide high deep) (config_of limit horizontal stair support) run b c l t r (end_from source) (sinks_from sinks)
