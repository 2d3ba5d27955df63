-- What the contracts of the entry's parts cite.
use Rattle.std.specs.Prelude.{◌≡◌, Result, Ok, Err, List, ◌++◌, ℕ, ◌<◌, length, drop, replicate, true}
use Rattle.numbers.specs.Refusals.{buffer_number}
use Rattle.basics.specs.Lists.{joined}
use Rattle.lent.specs.Lent.{filled}
use Rattle.multinet.specs.declared.Stop.{Stop}
use Rattle.multinet.specs.declared.Early.{Early}
use Rattle.room.specs.declared.Room.{Room}
use Rattle.room.specs.Room.{volume}
use Rattle.room_search.specs.TriedMoves.{places_of}
use Rattle.routing_resources.specs.Marks.{no_marks, Marks}
use Rattle.ground.specs.declared.Mode.{Mode}
use Rattle.job_sheet.specs.declared.Job.{Job}
use Rattle.job_sheet.specs.Accepted.{Accepted}
use Rattle.job_sheet.specs.Sheet.{Contents, Means}
use Rattle.ends.specs.declared.Taps.{Taps}
use Rattle.outset.specs.SetOut.{Outset}
use Rattle.outset.specs.SetOut.{OutsetOf}
use Rattle.goals.specs.Trials.{WorkMemory}
use Rattle.branches.specs.declared.BranchLengths.{BranchLengths}
use Rattle.branches.specs.Branches.{marked_count}
use Rattle.multinet.specs.Tree.{Plot, growth_of}
use Rattle.multinet.specs.Growing.{SoundPlot}
use Rattle.multinet.specs.Finishing.{Finishable, Finished}
use Rattle.net_tree.specs.declared.Tree.{Tree}
use Rattle.net_tree.specs.Answers.{Answer, Lent, lengths_of, buffers_good, TreeOutcome, routed, no_tree, outcome_of, job_outcome, answer_of}
use Rattle.multinet.specs.SinkTurns.{stop_number, stop_detail}

-- what the outputs hold: the answer and zeros behind it; after a number, whatever it was that they held when it was due
abbrev pub OutputsHold : TreeOutcome → (branches branches' occupied' repeaters' : List ℕ) → Type 0
OutputsHold (routed bs occupied repeaters) branches branches' occupied' repeaters' =
    (branches' ≡ filled (joined bs) branches) × (occupied' ≡ occupied) × (repeaters' ≡ repeaters)
OutputsHold (no_tree number detail) branches branches' occupied' repeaters' = buffer_number < number

-- a grown tree in the buffer, cleared outputs, and work memory of exactly V cells
pub record Harvestable (R : Room) (source : ℕ) (taps : Taps) (L : BranchLengths) (branches occupied repeaters classes known previous path : List ℕ) : Type 0 where
  pub classes-long : length classes ≡ volume R
  pub finishable : Finishable R source taps L branches occupied repeaters (no_marks (volume R)) known previous path

-- what the tree occupies and its repeaters, marked and counted
pub record Harvested (R : Room) (run source : ℕ) (taps : Taps) (L : BranchLengths) (branches : List ℕ) (r : Tree) (occupied repeaters : List ℕ) : Type 0 where
  pub answer : r ≡ record { occupied = marked_count occupied; repeaters = marked_count repeaters; lengths = L }
  pub finished : Finished R run source taps L branches occupied repeaters

-- the number that ended the growth
abbrev pub refused_by : Stop → TreeOutcome
refused_by stop = no_tree (stop_number stop) (stop_detail stop)

-- a growth that can be harvested if it is whole
pub record Gatherable (R : Room) (source : ℕ) (taps : Taps) (g : Result BranchLengths Early) (branches occupied repeaters classes known previous path : List ℕ) : Type 0 where
  pub harvestable : (L : BranchLengths) → g ≡ Ok L → Harvestable R source taps L branches occupied repeaters classes known previous path

-- the harvest of a whole tree, or a refusal
pub data Gathered (R : Room) (run source : ℕ) (taps : Taps) (g : Result BranchLengths Early) (branches : List ℕ) (r : Answer) (occupied repeaters : List ℕ) : Type 0 where
  ended-early : (e : Early) → g ≡ Err e → r ≡ answer_of (refused_by e.stop) → Gathered R run source taps g branches r occupied repeaters
  in_whole : (L : BranchLengths) → g ≡ Ok L → (t : Tree) → r ≡ Ok t → Harvested R run source taps L branches t occupied repeaters → Gathered R run source taps g branches r occupied repeaters

-- a plot that no number refuses, these cells blocked, cleared outputs, and work memory of exactly V cells
pub record Growable (P : Plot) (B : Lent) : Type 0 where
  pub sound : SoundPlot P
  pub branches-clear : B.branches ≡ replicate (length B.branches) 0
  pub occupied-clear : B.occupied ≡ no_marks (volume P.room)
  pub repeaters-clear : B.repeaters ≡ no_marks (volume P.room)
  pub blocked-long : length B.blocked ≡ volume P.room
  pub blocked-marks : Marks B.blocked
  pub classes-long : length B.classes ≡ volume P.room
  pub joinable-long : length B.joinable ≡ volume P.room
  pub memory : WorkMemory P.room B.known B.previous B.path
  pub best-long : length B.best ≡ volume P.room

-- the tree that grows there
pub record TreeGrown (P : Plot) (B : Lent) (r : Answer) (branches' occupied' repeaters' : List ℕ) : Type 0 where
  pub answer : r ≡ answer_of (outcome_of P (growth_of P B.blocked))
  pub outputs : OutputsHold (outcome_of P (growth_of P B.blocked)) B.branches branches' occupied' repeaters'

-- an accepted job, cleared outputs, and work memory of exactly V cells
pub record Routable (sheet : List ℕ) (job : Job) (B : Lent) : Type 0 where
  pub accepted : Accepted sheet job
  pub branches-clear : B.branches ≡ replicate (length B.branches) 0
  pub occupied-clear : B.occupied ≡ no_marks (volume job.room)
  pub repeaters-clear : B.repeaters ≡ no_marks (volume job.room)
  pub kinds-long : length B.kinds ≡ volume job.room
  pub blocked-long : length B.blocked ≡ volume job.room
  pub classes-long : length B.classes ≡ volume job.room
  pub joinable-long : length B.joinable ≡ volume job.room
  pub known-long : length B.known ≡ volume job.room
  pub previous-long : length B.previous ≡ volume job.room
  pub path-long : length B.path ≡ volume job.room
  pub best-long : length B.best ≡ volume job.room
  pub places-some : 0 < places_of B.queue

-- what comes of the job
pub record JobRouted (mode : Mode) (sheet : List ℕ) (B : Lent) (r : Answer) (branches' occupied' repeaters' : List ℕ) : Type 0 where
  pub outset : Outset
  pub kinds : List ℕ
  pub nodes : List ℕ
  pub blocked : List ℕ
  pub outcome : TreeOutcome
  pub is_set : (J : Contents) → Means sheet J → OutsetOf J outset kinds nodes blocked
  pub comes : (J : Contents) → Means sheet J → outcome ≡ job_outcome mode J (lengths_of B) outset kinds blocked
  pub answer : r ≡ answer_of outcome
  pub outputs : OutputsHold outcome B.branches branches' occupied' repeaters'

-- an accepted job, and lent memory that number 6 does not refuse
pub record Lendable (sheet : List ℕ) (job : Job) (B : Lent) : Type 0 where
  pub accepted : Accepted sheet job
  pub buffers : buffers_good job.room (lengths_of B) ≡ true

-- the outputs are all zero
pub record OutputsClear (B : Lent) : Type 0 where
  pub branches-clear : B.branches ≡ replicate (length B.branches) 0
  pub occupied-clear : B.occupied ≡ replicate (length B.occupied) 0
  pub repeaters-clear : B.repeaters ≡ replicate (length B.repeaters) 0

-- what comes of the job; the marks are in front, and behind them is what was there
pub record FrontRouted (mode : Mode) (sheet : List ℕ) (job : Job) (B : Lent) (r : Answer) (branches' occupied' repeaters' : List ℕ) : Type 0 where
  pub occupied-front : List ℕ
  pub repeaters-front : List ℕ
  pub is-routed : JobRouted mode sheet B r branches' occupied-front repeaters-front
  pub occupied-is : occupied' ≡ occupied-front ++ drop (volume job.room) B.occupied
  pub repeaters-is : repeaters' ≡ repeaters-front ++ drop (volume job.room) B.repeaters

-- an output that a refusal leaves all zero
abbrev pub settled_by : Answer → List ℕ → List ℕ
settled_by (Ok tree) buffer = buffer
settled_by (Err refused) buffer = replicate (length buffer) 0
