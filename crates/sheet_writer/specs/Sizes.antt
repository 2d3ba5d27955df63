-- How many bytes the sheet of a job has in a version, by the lengths of its lists. Definitions alone.
use Rattle.std.specs.Prelude.{Bool, ◌&&◌, ◌≡◌, ℕ, ◌+◌, ◌*◌, ◌/◌, ◌≤◌, leb}
use Rattle.job_sheet.specs.declared.Version.{Version}
use Rattle.job_sheet.specs.Version.{position_size, block_size, endpoint_size, sink_size, most_size, lists_place}
use Rattle.job_sheet.specs.Sheet.{max_bytes, max_sinks, listed, behind}
use Rattle.sheet_writer.specs.declared.Lengths.{Lengths}
use Rattle.sheet_writer.specs.Writer.{block_numbers, position_numbers, wholes}

unfoldable pub sheet_length : Version → Lengths → ℕ
sheet_length v n =
    let long = v.long in
    let conductors = behind (listed long (block_size long) (lists_place v) (n.blocks / block_numbers)) in
    let clearances = behind (listed long (position_size long) conductors (n.conductors / position_numbers)) in
    let terminals = behind (listed long (position_size long) clearances (n.clearances / position_numbers)) in
    let reserved = behind (listed long (position_size long) terminals (n.terminals / position_numbers)) in
    let source = behind (listed long (position_size long) reserved (n.reserved / position_numbers)) in
    source + endpoint_size long + 1 + sink_size v * n.sinks

-- the place right behind a list of so many records whose count stands at a place; it is small enough for the sums behind it
pub record BehindList (place size count r : ℕ) : Type 0 where
  pub is : r ≡ place + 2 + size * count
  pub near : r ≤ place + 2 + most_size * max_bytes

-- no list has more records than a sheet may have bytes, so that its bytes can be counted
unfoldable pub few_records : Lengths → Bool
few_records n =
    leb (n.blocks / block_numbers) max_bytes
    && (leb (n.conductors / position_numbers) max_bytes
    && (leb (n.clearances / position_numbers) max_bytes && (leb (n.terminals / position_numbers) max_bytes && leb (n.reserved / position_numbers) max_bytes)))

pub record Few (n : Lengths) : Type 0 where
  pub blocks : n.blocks / block_numbers ≤ max_bytes
  pub conductors : n.conductors / position_numbers ≤ max_bytes
  pub clearances : n.clearances / position_numbers ≤ max_bytes
  pub terminals : n.terminals / position_numbers ≤ max_bytes
  pub reserved : n.reserved / position_numbers ≤ max_bytes
  pub sinks : n.sinks ≤ max_sinks

-- number 1 by the lengths alone
unfoldable pub lengths_good : Version → Lengths → Bool
lengths_good v n = leb n.sinks max_sinks && (wholes n && leb (sheet_length v n) max_bytes)
