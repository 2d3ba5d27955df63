-- docs/MORE-RULES.md, Writing a sheet: what the parts of a job say, which number is due, what the writer answers, and what its output then holds. Definitions
-- alone; their laws are in the files named Laws, what they come to in Theorems.
use Rattle.std.specs.Prelude.{◌≡◌, Result, Ok, Err, Bool, ◌&&◌, List, [], ◌∷◌, map, ℕ, ◌+◌, ◌/◌, ◌%◌, leb, eqb, length, get_or, take}
use Rattle.numbers.specs.declared.Refusal.{Refusal}
use Rattle.numbers.specs.declared.Refusal.TheVariants as refusal
use Rattle.numbers.specs.Refusals.{done_number, sheet_number, sides_number, config_number, position_number, code_number, buffer_number}
use Rattle.basics.specs.Tests.{either}
use Rattle.basics.specs.Lists.{joined}
use Rattle.lent.specs.Lent.{output_after}
use Rattle.room.specs.declared.Room.{Room}
use Rattle.room.specs.declared.Pos.{Pos}
use Rattle.room.specs.declared.RouterConfig.{RouterConfig}
use Rattle.room.specs.Room.{at}
use Rattle.job_sheet.specs.declared.Block.{Block}
use Rattle.job_sheet.specs.declared.Endpoint.{Endpoint}
use Rattle.job_sheet.specs.declared.Sinks.{Sinks}
use Rattle.job_sheet.specs.declared.Judgement.{Judgement}
use Rattle.job_sheet.specs.declared.Judgement.TheVariants.{Sheet}
use Rattle.job_sheet.specs.declared.Version.{Version}
use Rattle.job_sheet.specs.Version.{first_ranges, version_one, version_two, version_three, fits_ranges}
use Rattle.job_sheet.specs.Sheet.{Contents, max_bytes, max_sinks, bytes_by, usual, is_good, judged, number_of, sinks_of}
use Rattle.job_sheet.specs.Places.{many}
use Rattle.sheet_writer.specs.declared.Lengths.{Lengths}
use Rattle.sheet_writer.specs.declared.Records.{Records}
use Rattle.sheet_writer.specs.declared.Records.TheVariants.{Blocks, Positions}

-- ---- what the parts say

-- "lists of 16-bit numbers, six a block, three a position; source; sinks as one value"
pub record Parts : Type 0 where
  pub room : Room
  pub config : RouterConfig
  pub run : ℕ
  pub blocks : List ℕ
  pub conductors : List ℕ
  pub clearances : List ℕ
  pub terminals : List ℕ
  pub reserved : List ℕ
  pub source : Endpoint
  pub sinks : Sinks

abbrev pub parts : Room → RouterConfig → ℕ → List ℕ → List ℕ → List ℕ → List ℕ → List ℕ → Endpoint → Sinks → Parts
parts R C n b c l t r e k = record {
  room = R;
  config = C;
  run = n;
  blocks = b;
  conductors = c;
  clearances = l;
  terminals = t;
  reserved = r;
  source = e;
  sinks = k;
}

abbrev pub block_numbers : ℕ
block_numbers = 6

abbrev pub position_numbers : ℕ
position_numbers = 3

abbrev pub numbers_for : Records → ℕ
numbers_for Blocks = block_numbers
numbers_for Positions = position_numbers

-- "x, y, z", from number k on
abbrev pub position_from : List ℕ → ℕ → Pos
position_from l k = at (get_or l k 0) (get_or l (k + 1) 0) (get_or l (k + 2) 0)

-- "node, x, y, z, kind, facing"
abbrev pub block_from : List ℕ → Block
block_from l = record { node = get_or l 0 0; at = position_from l 1; kind = get_or l 4 0; facing = get_or l 5 0 }

-- the records of a list, of which each takes so many numbers
unfoldable pub blocks_of : List ℕ → List Block
blocks_of l = many block_from block_numbers (length l / block_numbers) l

unfoldable pub positions_of : List ℕ → List Pos
positions_of l = many (λ m. position_from m 0) position_numbers (length l / position_numbers) l

unfoldable pub contents_of : Parts → Contents
contents_of P = record {
  room = P.room;
  config = P.config;
  run = P.run;
  blocks = blocks_of P.blocks;
  conductors = positions_of P.conductors;
  clearances = positions_of P.clearances;
  terminals = positions_of P.terminals;
  reserved = positions_of P.reserved;
  source = P.source;
  sinks = take P.sinks.count P.sinks.ends;
}

-- ---- the version that is written: "the lowest version that holds the job"

-- sides, node limit and costs are within the ranges of versions 1 and 2
unfoldable pub holds_first : Contents → Bool
holds_first J = fits_ranges first_ranges J.room J.config

-- "The writer uses version 1 where all are 12 and 8"
unfoldable pub version_for : Contents → Version
version_for J = either (holds_first J) (either (usual J) version_one version_two) version_three

-- the bytes of its sheet
abbrev pub written : Contents → List ℕ
written J = bytes_by (version_for J) J

-- ---- the number that is due

-- a whole number of records
abbrev pub whole : ℕ → ℕ → Bool
whole size n = eqb (n % size) 0

abbrev pub wholes : Lengths → Bool
wholes n =
    whole block_numbers n.blocks
    && (whole position_numbers n.conductors
    && (whole position_numbers n.clearances && (whole position_numbers n.terminals && whole position_numbers n.reserved)))

abbrev pub lengths_of : List ℕ → List ℕ → List ℕ → List ℕ → List ℕ → Sinks → Lengths
lengths_of b c l t r k = record {
  blocks = length b;
  conductors = length c;
  clearances = length l;
  terminals = length t;
  reserved = length r;
  sinks = k.count;
}

abbrev pub lengths_in : Parts → Lengths
lengths_in P = lengths_of P.blocks P.conductors P.clearances P.terminals P.reserved P.sinks

-- none of the reasons for number 1: "more than 16 sinks, 60,000 bytes or a list that is no whole number of records"
unfoldable pub formed : Parts → Bool
formed P = leb P.sinks.count max_sinks && (wholes (lengths_in P) && leb (length (written (contents_of P))) max_bytes)

-- number 1, then "2 to 5 as in the reader, record by record", at the ranges of the version that is written
unfoldable pub judged_parts : Parts → Judgement
judged_parts P = either (formed P) (judged (version_for (contents_of P)) (contents_of P)) Sheet

-- "then 6 for an output too short"
unfoldable pub number_due : Parts → ℕ → ℕ
number_due P lent =
    either (is_good (judged_parts P)) (either (leb (length (written (contents_of P))) lent) done_number buffer_number) (number_of (judged_parts P))

-- ---- the promise

-- what a number from 1 to 6 stands for
abbrev pub refusal_of : ℕ → Refusal
refusal_of n =
    either (eqb n sheet_number) refusal.Sheet
    (either (eqb n sides_number) refusal.Sides
    (either (eqb n config_number) refusal.Config (either (eqb n position_number) refusal.Position (either (eqb n code_number) refusal.Code refusal.Buffer))))

-- how many bytes were written, or what the number stands for
abbrev pub answer_of : ℕ → ℕ → Result ℕ Refusal
answer_of number bytes = either (eqb number done_number) (Ok bytes) (Err (refusal_of number))

-- the promise of `write_sheet`: the sheet's bytes and zeros behind them; "none touches the output"
pub record Promise (P : Parts) (out : List ℕ) (r : Result ℕ Refusal) (out' : List ℕ) : Type 0 where
  pub answers : r ≡ answer_of (number_due P (length out)) (length (written (contents_of P)))
  pub holds : out' ≡ output_after (number_due P (length out)) (written (contents_of P)) out

-- the low byte of each number: what is put, of numbers that a byte may not hold
abbrev pub low : List ℕ → List ℕ
low l = map (λ n. n % 256) l

-- ---- the parts of a sheet's contents

abbrev pub numbers_of_block : Block → List ℕ
numbers_of_block b = b.node ∷ b.at.x ∷ b.at.y ∷ b.at.z ∷ b.kind ∷ b.facing ∷ []

abbrev pub numbers_of_position : Pos → List ℕ
numbers_of_position p = p.x ∷ p.y ∷ p.z ∷ []

-- a list of records as numbers, in its order
unfoldable pub block_list : List Block → List ℕ
block_list bs = joined (map numbers_of_block bs)

unfoldable pub position_list : List Pos → List ℕ
position_list ps = joined (map numbers_of_position ps)

-- what a sheet says, taken apart
unfoldable pub parts_of : Contents → Parts
parts_of J = record {
  room = J.room;
  config = J.config;
  run = J.run;
  blocks = block_list J.blocks;
  conductors = position_list J.conductors;
  clearances = position_list J.clearances;
  terminals = position_list J.terminals;
  reserved = position_list J.reserved;
  source = J.source;
  sinks = sinks_of J.sinks;
}
