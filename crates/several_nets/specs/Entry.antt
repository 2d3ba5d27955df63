-- What the contracts of the entry's parts cite.
use Rattle.std.specs.Prelude.{◌≡◌, true, List, ◌++◌, ℕ, ◌≤◌, ◌<◌, eqb, length, take, drop, replicate, Option, Some, None, Result, Ok, Err}
use Rattle.numbers.specs.Refusals.{buffer_number, overlap_number, nets_overlap_number}
use Rattle.basics.specs.Tests.{either}
use Rattle.lent.specs.Lent.{touches, filled}
use Rattle.room.specs.Room.{Good, volume}
use Rattle.room_search.specs.TriedMoves.{places_of}
use Rattle.ground.specs.declared.Mode.{Mode}
use Rattle.job_sheet.specs.declared.Judgement.{Judgement}
use Rattle.blocks.specs.Blocks.{Placement}
use Rattle.job_list.specs.declared.Memory.{Memory}
use Rattle.job_list.specs.declared.Verdict.{Verdict}
use Rattle.job_list.specs.Split.{first_sheet}
use Rattle.job_list.specs.Judged.{contents_at, net_judgement, judged_list}
use Rattle.laid_nets.specs.declared.Meeting.{Meeting}
use Rattle.laid_nets.specs.Layings.{RoomSet}
use Rattle.list_routing.specs.declared.Stand.{Stand}
use Rattle.list_routing.specs.declared.NetRefused.{NetRefused}
use Rattle.list_routing.specs.Walk.{cells_of, lengths_of}
use Rattle.list_routing.specs.ListLent.{ListLent, Desk}
use Rattle.list_routing.specs.Walking.{room_of}
use Rattle.several_nets.specs.Answers.{ListAnswer, ListOutcome, all_laid, no_list, repeat_cell, ListComes, answer_of, lent_after}

-- the detail of a number that is due before any net is routed
abbrev pub detail_for : Verdict → Placement → ℕ
detail_for verdict p = either (eqb verdict.number overlap_number) (repeat_cell p) verdict.detail

-- what a walk comes to
abbrev pub met_answer : Option Meeting → ℕ → ListAnswer
met_answer None nets = Ok nets
met_answer (Some meeting) nets = answer_of (no_list nets_overlap_number meeting.net meeting.cell)

abbrev pub answer_for : Result Stand NetRefused → ListAnswer
answer_for (Ok stand) = met_answer stand.met stand.net
answer_for (Err why) = answer_of (no_list why.number why.net why.detail)

-- what numbers 1 to 6 refuse
abbrev pub refused_untouched : Result Unit Verdict → Result Unit NetRefused
refused_untouched (Ok good) = Ok tt
refused_untouched (Err verdict) = either (touches verdict.number) (Ok tt) (Err (record { net = verdict.net; number = verdict.number; detail = verdict.detail }))

-- an output that a refusal leaves all zero
abbrev pub settled_by : ListAnswer → List ℕ → List ℕ
settled_by (Ok nets) buffer = buffer
settled_by (Err why) buffer = replicate (length buffer) 0

-- ---- the first sheet

-- none of 1 to 5 is due for it
abbrev pub FirstGood : List ℕ → Type 0
FirstGood list = net_judgement (contents_at (first_sheet list)) (first_sheet list) ≡ Judgement.Good

pub record FirstAsked (list kinds facings known : List ℕ) : Type 0 where
  pub good : FirstGood list
  pub kinds-clear : kinds ≡ replicate (volume (room_of list)) 0
  pub facings-clear : facings ≡ replicate (volume (room_of list)) 0
  pub known-clear : known ≡ replicate (volume (room_of list)) 0

pub record FirstSet (list : List ℕ) (r : Placement) (kinds facings : List ℕ) : Type 0 where
  pub set : RoomSet (first_sheet list) r kinds facings
  pub good : Good (room_of list)

-- ---- over memory of exactly V cells

-- all that must be zero is
pub record Clear (B : ListLent) : Type 0 where
  pub branches : B.branches ≡ replicate (length B.branches) 0
  pub lengths : B.lengths ≡ replicate (length B.lengths) 0
  pub owners : B.owners ≡ replicate (length B.owners) 0
  pub repeaters : B.repeaters ≡ replicate (length B.repeaters) 0
  pub kinds : B.kinds ≡ replicate (length B.kinds) 0
  pub facings : B.facings ≡ replicate (length B.facings) 0
  pub before : B.before ≡ replicate (length B.before) 0
  pub known : B.known ≡ replicate (length B.known) 0

-- a list that came to this verdict, which touches lent memory
pub record JudgedTo (list : List ℕ) (verdict : Verdict) (B : ListLent) : Type 0 where
  pub memory : Memory
  pub memory-lengths : memory.lengths ≡ length B.lengths
  pub verdict-is : verdict ≡ judged_list memory list
  pub past : touches verdict.number ≡ true

pub record AnswerAsked (list : List ℕ) (verdict : Verdict) (B : ListLent) : Type 0 where
  pub judged : JudgedTo list verdict B
  pub desk : Desk (room_of list) B
  pub clear : Clear B

-- what the outputs hold; after a number, whatever it was that they held when it was due
abbrev pub Holds : ListOutcome → ListLent → ListLent → Type 0
Holds (all_laid nets planned owners room) B B' =
    (B'.branches ≡ filled (cells_of nets) B.branches)
    × (B'.lengths ≡ filled (lengths_of nets) B.lengths)
    × (B'.owners ≡ owners)
    × (B'.repeaters ≡ planned)
    × (B'.kinds ≡ room.kinds)
    × (B'.facings ≡ room.facings)
Holds (no_list number net detail) B B' = buffer_number < number

pub record Answered (mode : Mode) (list : List ℕ) (verdict : Verdict) (B : ListLent) (r : ListAnswer) (B' : ListLent) : Type 0 where
  pub outcome : ListOutcome
  pub comes : ListComes mode list verdict (length B.branches) (length B.queue) outcome
  pub answer : r ≡ answer_of outcome
  pub holds : Holds outcome B B'

-- ---- over the first V numbers of each buffer

-- so many entries in each buffer but `branches`, `lengths` and `queue`, which has a place
pub record Enough (n : ℕ) (B : ListLent) : Type 0 where
  pub owners : n ≤ length B.owners
  pub repeaters : n ≤ length B.repeaters
  pub kinds : n ≤ length B.kinds
  pub facings : n ≤ length B.facings
  pub occupied : n ≤ length B.occupied
  pub planned : n ≤ length B.planned
  pub before : n ≤ length B.before
  pub room : n ≤ length B.room
  pub blocked : n ≤ length B.blocked
  pub classes : n ≤ length B.classes
  pub joinable : n ≤ length B.joinable
  pub known : n ≤ length B.known
  pub previous : n ≤ length B.previous
  pub path : n ≤ length B.path
  pub best : n ≤ length B.best
  pub queue : 0 < places_of B.queue

abbrev pub front_of : ℕ → ListLent → ListLent
front_of n B = record {
  branches = B.branches;
  lengths = B.lengths;
  owners = take n B.owners;
  repeaters = take n B.repeaters;
  kinds = take n B.kinds;
  facings = take n B.facings;
  occupied = take n B.occupied;
  planned = take n B.planned;
  before = take n B.before;
  room = take n B.room;
  blocked = take n B.blocked;
  classes = take n B.classes;
  joinable = take n B.joinable;
  known = take n B.known;
  previous = take n B.previous;
  path = take n B.path;
  best = take n B.best;
  queue = B.queue;
}

pub record FrontAsked (list : List ℕ) (verdict : Verdict) (B : ListLent) : Type 0 where
  pub judged : JudgedTo list verdict B
  pub enough : Enough (volume (room_of list)) B
  pub clear : Clear B

pub record FrontAnswered (mode : Mode) (list : List ℕ) (verdict : Verdict) (B : ListLent) (r : ListAnswer) (B' : ListLent) : Type 0 where
  pub front : ListLent
  pub answered : Answered mode list verdict (front_of (volume (room_of list)) B) r front
  pub branches : B'.branches ≡ front.branches
  pub lengths : B'.lengths ≡ front.lengths
  pub owners : B'.owners ≡ front.owners ++ drop (volume (room_of list)) B.owners
  pub repeaters : B'.repeaters ≡ front.repeaters ++ drop (volume (room_of list)) B.repeaters
  pub kinds : B'.kinds ≡ front.kinds ++ drop (volume (room_of list)) B.kinds
  pub facings : B'.facings ≡ front.facings ++ drop (volume (room_of list)) B.facings

-- ---- over lent memory, whatever it holds

pub record LentAsked (list : List ℕ) (verdict : Verdict) (B : ListLent) : Type 0 where
  pub judged : JudgedTo list verdict B
  pub enough : Enough (volume (room_of list)) B

pub record LentAnswered (mode : Mode) (list : List ℕ) (verdict : Verdict) (B : ListLent) (r : ListAnswer) (B' : ListLent) : Type 0 where
  pub outcome : ListOutcome
  pub comes : ListComes mode list verdict (length B.branches) (length B.queue) outcome
  pub answer : r ≡ answer_of outcome
  pub lent_is : B' ≡ lent_after outcome B
