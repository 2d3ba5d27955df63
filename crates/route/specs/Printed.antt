-- What `route` prints of a sheet.
use Rattle.std.specs.Prelude.{◌≡◌, Bool, true, false, List, ◌++◌, ℕ, ◌≤◌, ◌<◌, length, take}
use Rattle.numbers.specs.Refusals.{sides_number}
use Rattle.room.specs.Room.{volume}
use Rattle.ground.specs.declared.Mode.TheVariants.{Published}
use Rattle.job_sheet.specs.Sheet.{Contents, Means}
use Rattle.branches.specs.Branches.{marked_count}
use Rattle.net_tree.specs.declared.Lengths.{Lengths}
use Rattle.net_tree.specs.Answers.{TreeOutcome, routed, no_tree, Comes}
use Rattle.route.specs.Lines.{net_line, branch_lines, repeaters_line, refused_line}
use Rattle.route.specs.Marked.{marked}

-- "Over 4,096 cells it prints `refused 2 0`"
abbrev pub max_cells : ℕ
max_cells = 4096

-- "its branch buffer 16,384 cells"
abbrev pub max_branch_cells : ℕ
max_branch_cells = 16384

-- "its queue holds 12,288 places", of two numbers each
abbrev pub queue_numbers : ℕ
queue_numbers = 24576

-- "its queue holds 12,288 places, its branch buffer 16,384 cells"; a place of the queue takes two numbers
abbrev pub program_lengths : Lengths
program_lengths = record {
  branches = max_branch_cells;
  occupied = max_cells;
  repeaters = max_cells;
  kinds = max_cells;
  blocked = max_cells;
  classes = max_cells;
  joinable = max_cells;
  known = max_cells;
  previous = max_cells;
  path = max_cells;
  best = max_cells;
  queue = queue_numbers;
}

-- what comes of a sheet in this program, in the published mode: the limit of its own stands at 2's place, after 1 and before 3
pub data ComesHere (sheet : List ℕ) (o : TreeOutcome) : Type 0 where
  over-limit : (J : Contents) → Means sheet J → max_cells < volume J.room → o ≡ no_tree sides_number 0 → ComesHere sheet o
  within-limit : ((J : Contents) → Means sheet J → volume J.room ≤ max_cells) → Comes Published sheet program_lengths o → ComesHere sheet o

-- the lines: `net`, "a line `branch` with its cells for each sink in sheet order", `repeaters`; or `refused`
abbrev pub printed : TreeOutcome → List ℕ
printed (routed branches occupied repeaters) =
    net_line (length branches) (marked_count occupied) ++ (branch_lines branches ++ repeaters_line (marked repeaters))
printed (no_tree number detail) = refused_line number detail

-- the first `end` bytes of the buffer are the lines of what comes
pub record Shown (comes : TreeOutcome → Type 0) (out : List ℕ) (end : ℕ) : Type 0 where
  pub outcome : TreeOutcome
  pub so : comes outcome
  pub within : end ≤ length out
  pub is : take end out ≡ printed outcome

-- what `put_sheet` promises
abbrev pub Printed : List ℕ → List ℕ → ℕ → Type 0
Printed sheet out end = Shown (ComesHere sheet) out end

-- whether the sheet's room is over the limit
pub data SizeJudged (sheet : List ℕ) (large : Bool) : Type 0 where
  is-over : (J : Contents) → Means sheet J → max_cells < volume J.room → large ≡ true → SizeJudged sheet large
  is_not : ((J : Contents) → Means sheet J → volume J.room ≤ max_cells) → large ≡ false → SizeJudged sheet large

-- 20 digits and a space for each number: two, 16,384 cells of branches, 4,096 of repeaters; the words, and the ends of the lines
abbrev pub longest_text : ℕ
longest_text = 430248
