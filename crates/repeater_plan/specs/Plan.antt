-- THE REPEATERS OF A NET IN ONE CALL: what `plan_net` judges, what it answers, and what every lent byte then holds. Definitions alone; each input determines
-- all of it (PromiseLaws, `coincide`).
use Rattle.std.specs.Prelude.{Result, Ok, Err, ◌≡◌, Bool, true, ◌&&◌, List, [], ◌∷◌, ◌++◌, map, ℕ, eqb, leb, ltb, length, Option, Some, None}
use Rattle.numbers.specs.Refusals.{done_number, buffer_number}
use Rattle.basics.specs.Tests.{either}
use Rattle.basics.specs.Lists.{any, every}
use Rattle.lent.specs.Lent.{output_after, work_after}
use Rattle.room.specs.declared.Room.{Room}
use Rattle.room.specs.Room.{sides_good, volume, moves, holds_at, neighbour}
use Rattle.job_sheet.specs.declared.Endpoint.{Endpoint}
use Rattle.job_sheet.specs.declared.Sinks.{Sinks}
use Rattle.job_sheet.specs.declared.Judgement.{Judgement}
use Rattle.job_sheet.specs.declared.Judgement.TheVariants as judgement
use Rattle.job_sheet.specs.Sheet.{max_sinks, is_good, first_fault, limit_fault, endpoint_fault, sink_fault, number_of}
use Rattle.ends.specs.declared.Fault.{Fault}
use Rattle.ends.specs.Ends.{sinks_in, fault_number, fault_of, terminal_in, source_end, taps_of}
use Rattle.branches.specs.declared.BranchLengths.{BranchLengths}
use Rattle.branches.specs.Branches.{lengths_in, branches_of, sum, marked_count}
use Rattle.repeaters.specs.NetEnds.{net_repeaters}
use Rattle.repeater_plan.specs.declared.Lengths.{Lengths}
use Rattle.repeater_plan.specs.declared.Refused.{Refused}

-- what is asked: "source, sinks, branches and the limits". Branches stand one behind the other in one list of cells; each sink has its tail limit
pub record Net : Type 0 where
  pub room : Room
  pub run : ℕ
  pub source : Endpoint
  pub sinks : Sinks
  pub cells : List ℕ
  pub lengths : BranchLengths

abbrev pub net : Room → ℕ → Endpoint → Sinks → List ℕ → BranchLengths → Net
net R run source sinks cells lengths = record { room = R; run = run; source = source; sinks = sinks; cells = cells; lengths = lengths }

abbrev pub branches_in : Net → List (List ℕ)
branches_in N = branches_of N.lengths N.cells

-- ---- numbers 2 to 5

-- one of the twelve moves leads from cell a to cell b
unfoldable pub is_move : Room → ℕ → ℕ → Bool
is_move R a b = any (λ m. holds_at (eqb b) (neighbour R a m)) moves

-- the first cell is in the room, and the step to the next one, if there is one, is one of the twelve moves
abbrev pub head_good : Room → List ℕ → Bool
head_good R [] = true
head_good R (a ∷ []) = ltb a (volume R)
head_good R (a ∷ (b ∷ rest)) = ltb a (volume R) && is_move R a b

-- so are each cell of a branch and each of its steps
unfoldable pub branch_good : Room → List ℕ → Bool
branch_good R [] = true
branch_good R (a ∷ rest) = head_good R (a ∷ rest) && branch_good R rest

-- "4 also for a branch step that isn't one of the twelve moves"
abbrev pub branch_fault : Room → List ℕ → Judgement
branch_fault R branch = either (branch_good R branch) judgement.Good judgement.Position

abbrev pub room_fault : Room → Judgement
room_fault R = either (sides_good R) judgement.Good judgement.Sides

-- "2, 3, 4 before 5 in each record (source, sinks, then branches)"
unfoldable pub judged : Net → Judgement
judged N =
    first_fault (room_fault N.room ∷ limit_fault N.run ∷ endpoint_fault N.room N.source
    ∷ (map (sink_fault N.room) (sinks_in N.sinks) ++ map (branch_fault N.room) (branches_in N)))

-- ---- number 6

-- what is lent: the output, and work memory
pub record Lent : Type 0 where
  pub repeaters : List ℕ
  pub forbidden : List ℕ
  pub links : List ℕ
  pub parents : List ℕ
  pub line : List ℕ

abbrev pub lent : (repeaters forbidden links parents line : List ℕ) → Lent
lent repeaters forbidden links parents line = record { repeaters = repeaters; forbidden = forbidden; links = links; parents = parents; line = line }

abbrev pub lengths_of : Lent → Lengths
lengths_of B = record {
  repeaters = length B.repeaters;
  forbidden = length B.forbidden;
  links = length B.links;
  parents = length B.parents;
  line = length B.line;
}

-- marks and work memory for each cell
unfoldable pub lent_good : Room → Lengths → Bool
lent_good R n = every (leb (volume R)) (n.repeaters ∷ n.forbidden ∷ n.links ∷ n.parents ∷ n.line ∷ [])

-- neither more than sixteen sinks nor more than sixteen branches, whose lengths add up to no more than the cells that are there
unfoldable pub counts_good : Net → Bool
counts_good N = leb N.sinks.count max_sinks && (leb N.lengths.count max_sinks && leb (sum (lengths_in N.lengths)) (length N.cells))

-- ---- what comes of it

-- marks of the repeaters, one byte a cell; or a number with its detail
pub data Outcome : Type 0 where
  planned : (marks : List ℕ) → Outcome
  unplanned : (number detail : ℕ) → Outcome

-- the repeaters of the net: the runs of all sinks, and only then the tails
unfoldable pub planned_marks : Net → List ℕ
planned_marks N =
    net_repeaters N.room N.run (terminal_in (source_end N.room N.source)) (taps_of N.room (sinks_in N.sinks)) (branches_in N)

-- "8, 9, as for a tree"
abbrev pub outcome_by : List ℕ → Option Fault → Outcome
outcome_by marks None = planned marks
outcome_by marks (Some fault) = unplanned (fault_number fault.due) fault.place

-- "2, 3, 4 before 5 in each record, 6, 8, 9"
unfoldable pub outcome_of : Net → Lent → Outcome
outcome_of N B =
    either (is_good (judged N))
    (either (counts_good N && lent_good N.room (lengths_of B)) (outcome_by (planned_marks N) (fault_of N.room N.source (sinks_in N.sinks))) (unplanned buffer_number 0))
    (unplanned (number_of (judged N)) 0)

-- ---- the answer, and the lent buffers

abbrev pub answer_of : Outcome → Result ℕ Refused
answer_of (planned marks) = Ok (marked_count marks)
answer_of (unplanned number detail) = Err (record { number = number; detail = detail })

abbrev pub number_for : Outcome → ℕ
number_for (planned marks) = done_number
number_for (unplanned number detail) = number

abbrev pub marks_for : Outcome → List ℕ
marks_for (planned marks) = marks
marks_for (unplanned number detail) = []

-- 2 to 6 touch nothing; 8 and 9 leave every lent buffer zero; a success writes the marks, zeros behind them, and zeroes work memory
abbrev pub lent_after : Outcome → Lent → Lent
lent_after o B = record {
  repeaters = output_after (number_for o) (marks_for o) B.repeaters;
  forbidden = work_after (number_for o) B.forbidden;
  links = work_after (number_for o) B.links;
  parents = work_after (number_for o) B.parents;
  line = work_after (number_for o) B.line;
}

-- the promise of `plan_net`
pub record Promise (N : Net) (B : Lent) (r : Result ℕ Refused) (B' : Lent) : Type 0 where
  pub answer : r ≡ answer_of (outcome_of N B)
  pub lent_is : B' ≡ lent_after (outcome_of N B) B
