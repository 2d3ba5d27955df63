-- What `route_net_tree` answers, and what every lent buffer then holds, as docs/RULES.md, Numbers that come back, has it for a tree. The mode, the sheet and the
-- lengths of the lent buffers determine all of it. Definitions alone; their laws are in the files named Laws.
use Rattle.std.specs.Prelude.{◌≡◌, Result, Ok, Err, Bool, true, false, ◌&&◌, List, [], ◌∷◌, ℕ, leb, length}
use Rattle.numbers.specs.Refusals.{done_number, buffer_number}
use Rattle.basics.specs.Tests.{either}
use Rattle.basics.specs.Lists.{every, joined}
use Rattle.lent.specs.Lent.{output_after, work_after}
use Rattle.room.specs.declared.Room.{Room}
use Rattle.room.specs.Room.{volume}
use Rattle.ground.specs.declared.Mode.{Mode}
use Rattle.job_sheet.specs.declared.Reading.{Reading}
use Rattle.job_sheet.specs.declared.Judgement.TheVariants as judgement
use Rattle.job_sheet.specs.Version.{version_in}
use Rattle.job_sheet.specs.Sheet.{Contents, Means, Read, judged, is_good, number_of}
use Rattle.outset.specs.SetOut.{Outset}
use Rattle.outset.specs.SetOut.{ready, number_by, detail_by, OutsetOf}
use Rattle.room_search.specs.Routing.{places_in}
use Rattle.branches.specs.Branches.{branch_lengths, marked_count}
use Rattle.multinet.specs.Tree.{Plot, Growth, grown, stopped, growth_of, repeaters_of}
use Rattle.net_tree.specs.declared.Lengths.{Lengths}
use Rattle.net_tree.specs.declared.Tree.{Tree}
use Rattle.net_tree.specs.declared.Refused.{Refused}

-- what is lent: three outputs, and nine buffers of work memory
pub record Lent : Type 0 where
  pub branches : List ℕ
  pub occupied : List ℕ
  pub repeaters : List ℕ
  pub kinds : List ℕ
  pub blocked : List ℕ
  pub classes : List ℕ
  pub joinable : List ℕ
  pub known : List ℕ
  pub previous : List ℕ
  pub path : List ℕ
  pub best : List ℕ
  pub queue : List ℕ

-- of what is lent only the lengths count
abbrev pub lengths_of : Lent → Lengths
lengths_of B = record {
  branches = length B.branches;
  occupied = length B.occupied;
  repeaters = length B.repeaters;
  kinds = length B.kinds;
  blocked = length B.blocked;
  classes = length B.classes;
  joinable = length B.joinable;
  known = length B.known;
  previous = length B.previous;
  path = length B.path;
  best = length B.best;
  queue = length B.queue;
}

-- number 6: "an output or work buffer under V (branch buffer and queue exempt), queue of length 0"
unfoldable pub buffers_good : Room → Lengths → Bool
buffers_good R L =
    every (leb (volume R))
    (L.occupied ∷ L.repeaters ∷ L.kinds ∷ L.blocked ∷ L.classes ∷ L.joinable ∷ L.known ∷ L.previous ∷ L.path ∷ L.best ∷ [])
    && leb 1 (places_in L.queue)

-- what a tree comes to: its branches in sheet order, and marks of the cells that it occupies and of its repeaters; or a number with its detail
pub data TreeOutcome : Type 0 where
  routed : (branches : List (List ℕ)) (occupied repeaters : List ℕ) → TreeOutcome
  no_tree : (number detail : ℕ) → TreeOutcome

-- what the tree of a job that is set out grows over. The caller chooses the mode
abbrev pub plot_for : Mode → Contents → Lengths → Outset → List ℕ → Plot
plot_for mode J L O kinds = record {
  room = J.room;
  config = J.config;
  mode = mode;
  run = J.run;
  kinds = kinds;
  places = places_in L.queue;
  buffer = L.branches;
  source = O.ends.source;
  taps = O.ends.taps;
}

-- a grown tree with its repeaters, or the number that stopped the growth
abbrev pub outcome_of : Plot → Growth → TreeOutcome
outcome_of P (grown T) = routed T.branches T.occupied (repeaters_of P T)
outcome_of P (stopped number detail) = no_tree number detail

-- "7, all of 8, all of 9, then per sink 13 or 14, then 15", of a job that is set out
unfoldable pub job_outcome : Mode → Contents → Lengths → Outset → List ℕ → List ℕ → TreeOutcome
job_outcome mode J L O kinds blocked =
    either (ready O)
    (outcome_of (plot_for mode J L O kinds) (growth_of (plot_for mode J L O kinds) blocked))
    (no_tree (number_by O.placement O.fault) (detail_by O.placement O.fault))

-- "A tree checks 1, 2, 3, then record by record 4 before 5, then 6, 7, ..": what comes of a sheet
pub data Comes (mode : Mode) (sheet : List ℕ) (L : Lengths) (o : TreeOutcome) : Type 0 where
  unread : (r : Reading) → Read sheet r → is_good r.judgement ≡ false → o ≡ no_tree (number_of r.judgement) 0 → Comes mode sheet L o
  unlent : (J : Contents) → Means sheet J → judged (version_in sheet) J ≡ judgement.Good → buffers_good J.room L ≡ false → o ≡ no_tree buffer_number 0 → Comes mode sheet L o
  set_out : (J : Contents) → Means sheet J → judged (version_in sheet) J ≡ judgement.Good → buffers_good J.room L ≡ true
      → (O : Outset) (kinds nodes blocked : List ℕ) → OutsetOf J O kinds nodes blocked → o ≡ job_outcome mode J L O kinds blocked
      → Comes mode sheet L o

-- ---- the answer

-- a tree, or the number that is due
abbrev pub Answer : Type 0
Answer = Result Tree Refused

-- the counts of the marked cells, and the branches' lengths; a refusal has no branches
abbrev pub answer_of : TreeOutcome → Answer
answer_of (routed bs occupied repeaters) = Ok (record { occupied = marked_count occupied; repeaters = marked_count repeaters; lengths = branch_lengths bs })
answer_of (no_tree number detail) = Err (record { number = number; detail = detail })

-- its number, 0 for a tree
abbrev pub number_for : TreeOutcome → ℕ
number_for (routed bs occupied repeaters) = done_number
number_for (no_tree number detail) = number

-- ---- the lent buffers

-- what the outputs get: the branches' cells in sheet order, the marks of what they occupy, the repeaters' marks; nothing after a refusal
abbrev pub branches_for : TreeOutcome → List ℕ
branches_for (routed bs occupied repeaters) = joined bs
branches_for (no_tree number detail) = []

abbrev pub occupied_for : TreeOutcome → List ℕ
occupied_for (routed bs occupied repeaters) = occupied
occupied_for (no_tree number detail) = []

abbrev pub repeaters_for : TreeOutcome → List ℕ
repeaters_for (routed bs occupied repeaters) = repeaters
repeaters_for (no_tree number detail) = []

-- "Numbers 1 to 6 touch nothing; 7 to 15 leave every lent writable buffer zero. A success writes the answer, zeros behind it, and zeroes work memory."
abbrev pub lent_after : TreeOutcome → Lent → Lent
lent_after o B = record {
  branches = output_after (number_for o) (branches_for o) B.branches;
  occupied = output_after (number_for o) (occupied_for o) B.occupied;
  repeaters = output_after (number_for o) (repeaters_for o) B.repeaters;
  kinds = work_after (number_for o) B.kinds;
  blocked = work_after (number_for o) B.blocked;
  classes = work_after (number_for o) B.classes;
  joinable = work_after (number_for o) B.joinable;
  known = work_after (number_for o) B.known;
  previous = work_after (number_for o) B.previous;
  path = work_after (number_for o) B.path;
  best = work_after (number_for o) B.best;
  queue = work_after (number_for o) B.queue;
}

-- the promise of `route_net_tree`
pub record Promise (mode : Mode) (sheet : List ℕ) (B : Lent) (r : Answer) (B' : Lent) : Type 0 where
  pub outcome : TreeOutcome
  pub comes : Comes mode sheet (lengths_of B) outcome
  pub answer : r ≡ answer_of outcome
  pub lent_is : B' ≡ lent_after outcome B

-- what is lent, as the functions are handed it
abbrev pub lent : (branches occupied repeaters kinds blocked classes joinable known previous path best queue : List ℕ) → Lent
lent branches occupied repeaters kinds blocked classes joinable known previous path best queue = record {
  branches = branches;
  occupied = occupied;
  repeaters = repeaters;
  kinds = kinds;
  blocked = blocked;
  classes = classes;
  joinable = joinable;
  known = known;
  previous = previous;
  path = path;
  best = best;
  queue = queue;
}
