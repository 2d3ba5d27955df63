-- What taking a sheet apart answers, and what each list then holds. Definitions alone.
use Rattle.std.specs.Prelude.{◌≡◌, Bool, ◌&&◌, List, ℕ, ◌*◌, ◌≤◌, leb, length, drop}
use Rattle.numbers.specs.Refusals.{done_number, buffer_number}
use Rattle.basics.specs.Tests.{either}
use Rattle.basics.specs.Lists.{joined}
use Rattle.lent.specs.Lent.{output_after}
use Rattle.job_sheet.specs.declared.Part.{Part}
use Rattle.job_sheet.specs.declared.Job.{Job}
use Rattle.job_sheet.specs.declared.Reading.{Reading}
use Rattle.job_sheet.specs.Sheet.{is_good, number_of, Read}
use Rattle.job_sheet.specs.Places.{many, block_in, position_in}
use Rattle.sheet_writer.specs.declared.Lengths.{Lengths}
use Rattle.sheet_writer.specs.declared.Records.{Records}
use Rattle.sheet_writer.specs.declared.Records.TheVariants.{Blocks, Positions}
use Rattle.sheet_writer.specs.declared.apart.Taking.{Taking}
use Rattle.sheet_writer.specs.Writer.{block_numbers, position_numbers, numbers_of_block, numbers_of_position}

-- the numbers of the record at the front of these bytes, with long coordinates or not, and of all records of a part
abbrev pub numbers_in : Bool → Records → List ℕ → List ℕ
numbers_in long Blocks l = numbers_of_block (block_in long l)
numbers_in long Positions l = numbers_of_position (position_in long l 0)

unfoldable pub list_in : Records → List ℕ → Part → List ℕ
list_in k s p = joined (many (numbers_in p.long k) p.size p.count (drop p.from s))

-- five lists of numbers
pub record Lists : Type 0 where
  pub blocks : List ℕ
  pub conductors : List ℕ
  pub clearances : List ℕ
  pub terminals : List ℕ
  pub reserved : List ℕ

abbrev pub lists : List ℕ → List ℕ → List ℕ → List ℕ → List ℕ → Lists
lists b c l t r = record { blocks = b; conductors = c; clearances = l; terminals = t; reserved = r }

abbrev pub lengths_lent : Lists → Lengths
lengths_lent B = record {
  blocks = length B.blocks;
  conductors = length B.conductors;
  clearances = length B.clearances;
  terminals = length B.terminals;
  reserved = length B.reserved;
  sinks = 0;
}

-- counts of a job that was read: each is at most a sheet's bytes
pub record Inside (job : Job) : Type 0 where
  pub blocks : job.blocks.count ≤ 60000
  pub conductors : job.conductors.count ≤ 60000
  pub clearances : job.clearances.count ≤ 60000
  pub terminals : job.terminals.count ≤ 60000
  pub reserved : job.reserved.count ≤ 60000

-- each list finds place
unfoldable pub lists_fit : Job → Lengths → Bool
lists_fit job lent =
    leb (block_numbers * job.blocks.count) lent.blocks
    && (leb (position_numbers * job.conductors.count) lent.conductors
    && (leb (position_numbers * job.clearances.count) lent.clearances
    && (leb (position_numbers * job.terminals.count) lent.terminals && leb (position_numbers * job.reserved.count) lent.reserved)))

-- "1 to 5 as in the reader", then 6 for a list that finds no place
unfoldable pub taken_number : Reading → Lengths → ℕ
taken_number q lent = either (is_good q.judgement) (either (lists_fit q.job lent) done_number buffer_number) (number_of q.judgement)

-- the promise of `take_apart`: the number and the job that was read; after a success each list, and zeros behind it
pub record TakesApart (sheet : List ℕ) (B : Lists) (r : Taking) (B' : Lists) : Type 0 where
  pub reading : Reading
  pub read : Read sheet reading
  pub number_is : r.number ≡ taken_number reading (lengths_lent B)
  pub job_is : r.job ≡ reading.job
  pub blocks-are : B'.blocks ≡ output_after r.number (list_in Blocks sheet reading.job.blocks) B.blocks
  pub conductors-are : B'.conductors ≡ output_after r.number (list_in Positions sheet reading.job.conductors) B.conductors
  pub clearances-are : B'.clearances ≡ output_after r.number (list_in Positions sheet reading.job.clearances) B.clearances
  pub terminals-are : B'.terminals ≡ output_after r.number (list_in Positions sheet reading.job.terminals) B.terminals
  pub reserved-are : B'.reserved ≡ output_after r.number (list_in Positions sheet reading.job.reserved) B.reserved
