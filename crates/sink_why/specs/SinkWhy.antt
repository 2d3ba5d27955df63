-- "Why couldn't this sink be reached?": what `why_no_goal` answers beside the tree's own answer, and every byte of lent memory. The mode, the sheet and the
-- lengths of the lent buffers determine all of it. Definitions alone; their laws are in the files named Laws.
use Rattle.std.specs.Prelude.{◌≡◌, Result, Ok, Err, Option, Some, None, Bool, true, false, ◌&&◌, ◌||◌, List, [], ℕ, suc, ◌*◌, leb, eqb, length}
use Rattle.numbers.specs.Refusals.{buffer_number, queue_full_number, no_goal_number}
use Rattle.basics.specs.Tests.{either}
use Rattle.lent.specs.Lent.{output_after}
use Rattle.room.specs.declared.Room.{Room}
use Rattle.room.specs.Room.{volume}
use Rattle.ground.specs.declared.Mode.{Mode}
use Rattle.job_sheet.specs.declared.Judgement.TheVariants as judgement
use Rattle.job_sheet.specs.Version.{version_in}
use Rattle.job_sheet.specs.Sheet.{Contents, Means, judged}
use Rattle.outset.specs.SetOut.{Outset}
use Rattle.flood.specs.Walls.{tabled, marks_by, walls_by}
use Rattle.multinet.specs.Tree.{Plot, Tree, sink_now}
use Rattle.causes.specs.Causes.{cause_of}
use Rattle.why_tree.specs.WhyTree.{tree_obstacle, is_shut_in, sink_approach, verdict_of, StopsThere}
use Rattle.net_tree.specs.declared.Lengths.{Lengths}
use Rattle.net_tree.specs.declared.Tree as trees
use Rattle.net_tree.specs.Answers.{Answer, Lent, lengths_of, TreeOutcome, no_tree, plot_for, Comes, answer_of, number_for, lent_after}
use Rattle.net_tree.specs.SheetTrees.{TreeUnrefused}
use Rattle.sink_why.specs.declared.Unrouted.{Unrouted}
use Rattle.sink_why.specs.declared.Told.{Told}

-- ---- where the growth stopped

-- the sheet is set out so, and at this turn, the tree being this, the growth stops with this number and detail
pub record StoppedAt (mode : Mode) (sheet : List ℕ) (L : Lengths) (number detail : ℕ) : Type 0 where
  pub contents : Contents
  pub outset : Outset
  pub kinds : List ℕ
  pub nodes : List ℕ
  pub blocked : List ℕ
  pub unrefused : TreeUnrefused sheet L contents outset kinds nodes blocked
  pub turn : ℕ
  pub tree : Tree
  pub there : StopsThere (plot_for mode contents L outset kinds) blocked turn tree number detail

-- ---- what is told of it

-- the sink's place in the sheet, from 1; the verdict; and for a sink that is shut in one byte a cell, twelve a cell, and one a cell
pub record Reason : Type 0 where
  pub place : ℕ
  pub verdict : ℕ
  pub reached : List ℕ
  pub walls : List ℕ
  pub causes : List ℕ

abbrev pub no_reason : Reason
no_reason = record { place = 0; verdict = 0; reached = []; walls = []; causes = [] }

-- "The three are written for shut in, else zero"
abbrev pub for_shut_in : ℕ → List ℕ → List ℕ
for_shut_in verdict bytes = either (eqb verdict is_shut_in) bytes []

-- of the sink k, with the tree of its turn
unfoldable pub reason_at : Contents → Plot → List ℕ → Tree → ℕ → ℕ → Reason
reason_at J P nodes T k verdict =
    let obstacle = tree_obstacle P.mode P.room P.kinds T.blocked T.joinable (sink_approach P k) in
    record {
      place = suc k;
      verdict = verdict;
      reached = for_shut_in verdict (marks_by P.room obstacle (sink_approach P k));
      walls = for_shut_in verdict (walls_by P.room obstacle (sink_approach P k));
      causes = for_shut_in verdict (tabled (volume P.room) (cause_of P.kinds nodes J P.source P.taps T.branches));
    }

abbrev pub reason_of : {mode : Mode} {sheet : List ℕ} {L : Lengths} {number detail : ℕ} → StoppedAt mode sheet L number detail → Reason
reason_of {mode} {sheet} {L} {number} S =
    let P = plot_for mode S.contents L S.outset S.kinds in
    let k = sink_now P S.turn in
    reason_at S.contents P S.nodes S.tree k (verdict_of P S.tree k number)

-- "for 13 and 14"
abbrev pub asks_why : ℕ → Bool
asks_why number = eqb number queue_full_number || eqb number no_goal_number

pub data TellsWhy (mode : Mode) (sheet : List ℕ) (L : Lengths) (o : TreeOutcome) (w : Reason) : Type 0 where
  unasked : asks_why (number_for o) ≡ false → w ≡ no_reason → TellsWhy mode sheet L o w
  asked : (number detail : ℕ) → o ≡ no_tree number detail → asks_why number ≡ true → (S : StoppedAt mode sheet L number detail) → w ≡ reason_of S
      → TellsWhy mode sheet L o w

-- ---- the outputs

-- "6 also where `reached` or `causes` is under V or `walls` under 12V"
unfoldable pub outputs_good : Room → ℕ → ℕ → ℕ → Bool
outputs_good R reached walls causes = leb (volume R) reached && (leb (12 * volume R) walls && leb (volume R) causes)

-- at 6's place: a sheet's reading, 1 to 5, is judged before it; else the tree's own outcome
pub data WhyComes (mode : Mode) (sheet : List ℕ) (L : Lengths) (reached walls causes : ℕ) (o : TreeOutcome) : Type 0 where
  outputs-short : (J : Contents) → Means sheet J → judged (version_in sheet) J ≡ judgement.Good → outputs_good J.room reached walls causes ≡ false
      → o ≡ no_tree buffer_number 0 → WhyComes mode sheet L reached walls causes o
  as_tree : ((J : Contents) → Means sheet J → judged (version_in sheet) J ≡ judgement.Good → outputs_good J.room reached walls causes ≡ true) → Comes mode sheet L o
      → WhyComes mode sheet L reached walls causes o

-- ---- the answer

-- a tree, or why there is none
abbrev pub Why : Type 0
Why = Result trees.Tree Unrouted

-- the tree's answer, with what is told of the sink
abbrev pub why_with : Answer → Option Told → Why
why_with (Ok tree) told = Ok tree
why_with (Err refused) told = Err (record { refused = refused; told = told })

-- the reason, which numbers 13 and 14 alone are told with
abbrev pub told_of : ℕ → Reason → Option Told
told_of number w = either (asks_why number) (Some (record { place = w.place; verdict = w.verdict })) None

-- the tree's own answer
abbrev pub answer_in : Why → Answer
answer_in (Ok tree) = Ok tree
answer_in (Err u) = Err u.refused

-- the sink's place and its verdict, 0 where nothing is told
abbrev pub place_told : Option Told → ℕ
place_told None = 0
place_told (Some t) = t.place

abbrev pub verdict_told : Option Told → ℕ
verdict_told None = 0
verdict_told (Some t) = t.verdict

abbrev pub place_in : Why → ℕ
place_in (Ok tree) = 0
place_in (Err u) = place_told u.told

abbrev pub verdict_in : Why → ℕ
verdict_in (Ok tree) = 0
verdict_in (Err u) = verdict_told u.told

-- ---- the promise of `why_no_goal`

pub record Outputs : Type 0 where
  pub reached : List ℕ
  pub walls : List ℕ
  pub causes : List ℕ

-- as the functions are handed them
abbrev pub outputs : (reached walls causes : List ℕ) → Outputs
outputs reached walls causes = record { reached = reached; walls = walls; causes = causes }

pub record Promise (mode : Mode) (sheet : List ℕ) (B : Lent) (U : Outputs) (r : Why) (B' : Lent) (U' : Outputs) : Type 0 where
  pub outcome : TreeOutcome
  pub comes : WhyComes mode sheet (lengths_of B) (length U.reached) (length U.walls) (length U.causes) outcome
  pub reason : Reason
  pub tells : TellsWhy mode sheet (lengths_of B) outcome reason
  pub why-is : r ≡ why_with (answer_of outcome) (told_of (number_for outcome) reason)
  pub lent_is : B' ≡ lent_after outcome B
  pub reached-is : U'.reached ≡ output_after (number_for outcome) reason.reached U.reached
  pub walls-is : U'.walls ≡ output_after (number_for outcome) reason.walls U.walls
  pub causes-is : U'.causes ≡ output_after (number_for outcome) reason.causes U.causes
