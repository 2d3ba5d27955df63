-- The promise of `route_nets`: what a job list comes to, and what every lent byte then holds. Definitions alone; each input determines all of it.
use Rattle.std.specs.Prelude.{◌≡◌, ◌≢◌, List, [], ◌∷◌, ℕ, ltb, length, Option, Some, None, Result}
use Rattle.numbers.specs.Refusals.{done_number, overlap_number, nets_overlap_number}
use Rattle.basics.specs.Tests.{either}
use Rattle.lent.specs.Lent.{output_after, work_after}
use Rattle.room.specs.declared.Room.{Room}
use Rattle.room.specs.Room.{volume}
use Rattle.room_search.specs.TriedMoves.{places_of}
use Rattle.ground.specs.declared.Mode.{Mode}
use Rattle.routing_resources.specs.Marks.{marked_by, no_marks}
use Rattle.blocks.specs.Blocks.{Placement}
use Rattle.std.specs.Prelude.{Ok, Err}
use Rattle.blocks.specs.Blocks.{Placing}
use Rattle.laying.specs.Laying.{Net, Laid}
use Rattle.job_list.specs.declared.Memory.{Memory}
use Rattle.job_list.specs.declared.Verdict.{Verdict}
use Rattle.job_list.specs.Split.{first_sheet}
use Rattle.job_list.specs.Judged.{contents_at, judged_list}
use Rattle.nets.specs.Nets.{Routing, all-kept, refused-by, routed_list}
use Rattle.laid_nets.specs.declared.Meeting.{Meeting}
use Rattle.laid_nets.specs.LaidNets.{room_at, LaidNets, unlaid, laid_nets}
use Rattle.list_routing.specs.declared.NetRefused.{NetRefused}
use Rattle.list_routing.specs.Walk.{cells_of, lengths_of, planned_by}
use Rattle.list_routing.specs.ListLent.{ListLent}
use Rattle.list_routing.specs.Walking.{room_of}

-- ---- number 6

-- the least of these
unfoldable pub lesser : ℕ → ℕ → ℕ
lesser a b = either (ltb a b) a b

unfoldable pub least_of : List ℕ → ℕ
least_of [] = 0
least_of (n ∷ []) = n
least_of (n ∷ (m ∷ rest)) = lesser n (least_of (m ∷ rest))

-- what number 6 asks of what is lent: "V and the queue with net 0, `lengths` under 16(k + 1) with net k"
abbrev pub memory_of : ListLent → Memory
memory_of B = record {
  cells =
      least_of
      (length B.owners ∷ length B.repeaters ∷ length B.kinds ∷ length B.facings ∷ length B.occupied ∷ length B.planned ∷ length B.before ∷ length B.room ∷ length B.blocked ∷ length B.classes ∷ length B.joinable ∷ length B.known ∷ length B.previous ∷ length B.path ∷ length B.best ∷ []);
  places = places_of B.queue;
  lengths = length B.lengths;
}

-- ---- what a list comes to

-- its nets in list order, marks of their planned repeaters, whose each cell is, and the laid room; or a number, the net that it is due for, and its detail
pub data ListOutcome : Type 0 where
  all_laid : (nets : List Net) (planned owners : List ℕ) (room : Laid) → ListOutcome
  no_list : (number net detail : ℕ) → ListOutcome

-- "after all nets, 16 with the cell where two nets overlap"
abbrev pub laid_outcome : Option Meeting → Room → List Net → LaidNets → ListOutcome
laid_outcome None R nets S = all_laid nets (marked_by (planned_by nets) (no_marks (volume R))) S.owners S.room
laid_outcome (Some meeting) R nets S = no_list nets_overlap_number meeting.net meeting.cell

-- all nets laid into the room of blocks, or "the first net that refuses ends the list"
abbrev pub routed_outcome : Room → Laid → Routing → ListOutcome
routed_outcome R room (all-kept nets) = laid_outcome (laid_nets R 0 nets (unlaid R room)).met R nets (laid_nets R 0 nets (unlaid R room))
routed_outcome R room (refused-by net number detail) = no_list number net detail

-- the cell that number 7 tells
abbrev pub repeat_cell : Placement → ℕ
repeat_cell (Ok placed) = 0
repeat_cell (Err overlap) = overlap.cell

-- "1 to 9 judged for all jobs in list order before any is routed", which came to this verdict; then all nets, with so many cells of the branch buffer and a queue
-- of this length
pub data ListComes (mode : Mode) (list : List ℕ) (verdict : Verdict) (buffer queue : ℕ) (o : ListOutcome) : Type 0 where
  due : verdict.number ≢ done_number → verdict.number ≢ overlap_number → o ≡ no_list verdict.number verdict.net verdict.detail → ListComes mode list verdict buffer queue o
  repeated : verdict.number ≡ overlap_number → (p : Placement)
      → Placing (room_of list) (contents_at (first_sheet list)).blocks (length (contents_at (first_sheet list)).blocks) p
      → o ≡ no_list overlap_number verdict.net (repeat_cell p) → ListComes mode list verdict buffer queue o
  walked : verdict.number ≡ done_number → o ≡ routed_outcome (room_of list) (room_at (first_sheet list)) (routed_list mode list buffer queue) → ListComes mode list verdict buffer queue o

-- ---- the answer: "number, net index, detail and the count of nets"

-- how many nets are laid; or the net that refuses, its number and its detail
abbrev pub ListAnswer : Type 0
ListAnswer = Result ℕ NetRefused

abbrev pub answer_of : ListOutcome → ListAnswer
answer_of (all_laid nets planned owners room) = Ok (length nets)
answer_of (no_list number net detail) = Err (record { net = net; number = number; detail = detail })

-- the number that comes back for it, 0 where all nets are laid
abbrev pub number_told : ListAnswer → ℕ
number_told (Ok nets) = done_number
number_told (Err why) = why.number

-- ---- the lent buffers

abbrev pub branches_for : ListOutcome → List ℕ
branches_for (all_laid nets planned owners room) = cells_of nets
branches_for (no_list number net detail) = []

abbrev pub lengths_for : ListOutcome → List ℕ
lengths_for (all_laid nets planned owners room) = lengths_of nets
lengths_for (no_list number net detail) = []

abbrev pub owners_for : ListOutcome → List ℕ
owners_for (all_laid nets planned owners room) = owners
owners_for (no_list number net detail) = []

abbrev pub repeaters_for : ListOutcome → List ℕ
repeaters_for (all_laid nets planned owners room) = planned
repeaters_for (no_list number net detail) = []

abbrev pub kinds_for : ListOutcome → List ℕ
kinds_for (all_laid nets planned owners room) = room.kinds
kinds_for (no_list number net detail) = []

abbrev pub facings_for : ListOutcome → List ℕ
facings_for (all_laid nets planned owners room) = room.facings
facings_for (no_list number net detail) = []

-- "1 to 6 touch nothing; from 7 on all is zero [..]; a success writes the answers, zeros behind, and zeroes work memory"
abbrev pub lent_after : ListOutcome → ListLent → ListLent
lent_after o B = record {
  branches = output_after (number_told (answer_of o)) (branches_for o) B.branches;
  lengths = output_after (number_told (answer_of o)) (lengths_for o) B.lengths;
  owners = output_after (number_told (answer_of o)) (owners_for o) B.owners;
  repeaters = output_after (number_told (answer_of o)) (repeaters_for o) B.repeaters;
  kinds = output_after (number_told (answer_of o)) (kinds_for o) B.kinds;
  facings = output_after (number_told (answer_of o)) (facings_for o) B.facings;
  occupied = work_after (number_told (answer_of o)) B.occupied;
  planned = work_after (number_told (answer_of o)) B.planned;
  before = work_after (number_told (answer_of o)) B.before;
  room = work_after (number_told (answer_of o)) B.room;
  blocked = work_after (number_told (answer_of o)) B.blocked;
  classes = work_after (number_told (answer_of o)) B.classes;
  joinable = work_after (number_told (answer_of o)) B.joinable;
  known = work_after (number_told (answer_of o)) B.known;
  previous = work_after (number_told (answer_of o)) B.previous;
  path = work_after (number_told (answer_of o)) B.path;
  best = work_after (number_told (answer_of o)) B.best;
  queue = work_after (number_told (answer_of o)) B.queue;
}

-- the promise of `route_nets`
pub record Promise (mode : Mode) (list : List ℕ) (B : ListLent) (r : ListAnswer) (B' : ListLent) : Type 0 where
  pub outcome : ListOutcome
  pub comes : ListComes mode list (judged_list (memory_of B) list) (length B.branches) (length B.queue) outcome
  pub answer : r ≡ answer_of outcome
  pub lent_is : B' ≡ lent_after outcome B
