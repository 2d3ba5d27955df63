-- What the contracts of the parts cite.
use Rattle.std.specs.Prelude.{◌≡◌, Ok, Err, true, List, ℕ, ◌≤◌, eqb, length, replicate}
use Rattle.numbers.specs.Refusals.{done_number, no_goal_number}
use Rattle.basics.specs.Tests.{either}
use Rattle.lent.specs.Lent.{filled, Cleared}
use Rattle.room.specs.Room.{volume}
use Rattle.routing_resources.specs.Marks.{no_marks}
use Rattle.ground.specs.declared.Ground.{Ground}
use Rattle.ground.specs.declared.Mode.{Mode}
use Rattle.job_sheet.specs.declared.Job.{Job}
use Rattle.job_sheet.specs.declared.Judgement.TheVariants as judgement
use Rattle.job_sheet.specs.Version.{version_in}
use Rattle.job_sheet.specs.Sheet.{Contents, Means, judged}
use Rattle.job_sheet.specs.Accepted.{Accepted}
use Rattle.ends.specs.declared.Taps.{Taps}
use Rattle.ends.specs.Ends.{NetInside}
use Rattle.outset.specs.SetOut.{Outset}
use Rattle.outset.specs.SetOut.{ready, OutsetAsked, OutsetOf, SetOut}
use Rattle.branches.specs.declared.BranchLengths.{BranchLengths}
use Rattle.branches.specs.Branches.{branches_of}
use Rattle.flood.specs.Walls.{tabled, marks_by, walls_by}
use Rattle.multinet.specs.declared.Early.{Early}
use Rattle.multinet.specs.Tree.{Plot, Tree, stopped, growth_of, sink_now}
use Rattle.multinet.specs.Growing.{SoundPlot}
use Rattle.multinet.specs.SinkTurns.{plot_of, stop_number, StoppedEarly}
use Rattle.causes.specs.Causes.{cause_of, OwnBranches}
use Rattle.why_tree.specs.WhyTree.{tree_obstacle, verdict_for, verdict_of, cut_short, StopsThere}
use Rattle.why_tree.specs.Telling.{SinkAsked}
use Rattle.net_tree.specs.declared.memory.Memory.{Memory}
use Rattle.net_tree.specs.Answers.{Answer, Lent, lent, lengths_of}
use Rattle.net_tree.specs.Held.{lent_with}
use Rattle.net_tree.specs.Entry.{Routable}
use Rattle.net_tree.specs.EntryLaws.{LongEnough}
use Rattle.sink_why.specs.declared.Stopping.{Stopping}
use Rattle.sink_why.specs.declared.Told.{Told}
use Rattle.sink_why.specs.SinkWhy.{Reason, for_shut_in, reason_at, outputs_good}

-- ---- why cells are blocked

-- an accepted sheet, the net's ends and branches, and one entry a cell for each
pub record BlockedAsked (sheet : List ℕ) (job : Job) (source : ℕ) (taps : Taps) (L : BranchLengths) (branches kinds nodes blocked marks causes : List ℕ) : Type 0 where
  pub set : OutsetAsked sheet job kinds nodes blocked
  pub marks-long : length marks ≡ volume job.room
  pub causes-enough : volume job.room ≤ length causes
  pub net : NetInside job.room source taps
  pub own : OwnBranches job.room L branches

-- each cell's causes, zeros behind them, for whatever is set out
pub record BlockedTold (sheet : List ℕ) (source : ℕ) (taps : Taps) (L : BranchLengths) (branches causes causes' : List ℕ) : Type 0 where
  pub causes-is : (J : Contents) → Means sheet J → (O : Outset) (kinds nodes blocked : List ℕ) → OutsetOf J O kinds nodes blocked
      → causes' ≡ filled (tabled (volume J.room) (cause_of kinds nodes J source taps (branches_of L branches))) causes

-- ---- what is told of the sink

pub record ReasonAsked (G : Ground) (sheet : List ℕ) (job : Job) (S : Stopping) (approach : ℕ)
    (branches kinds blocked classes joinable known path reached walls causes : List ℕ) : Type 0 where
  pub sink : SinkAsked G kinds blocked joinable approach classes path reached walls
  pub blocking : BlockedAsked sheet job S.source S.taps S.lengths branches kinds known blocked joinable causes

pub record ReasonTold (G : Ground) (sheet : List ℕ) (S : Stopping) (approach : ℕ) (branches kinds blocked joinable reached walls causes : List ℕ) (verdict : ℕ)
    (reached' walls' causes' : List ℕ) : Type 0 where
  pub verdict-is : verdict ≡ either S.unreached (verdict_for G kinds blocked joinable approach) cut_short
  pub reached-is : reached' ≡ filled (for_shut_in verdict (marks_by G.room (tree_obstacle G.mode G.room kinds blocked joinable approach) approach)) reached
  pub walls-is : walls' ≡ filled (for_shut_in verdict (walls_by G.room (tree_obstacle G.mode G.room kinds blocked joinable approach) approach)) walls
  pub causes-is : (J : Contents) → Means sheet J → (O : Outset) (kinds'' nodes blocked'' : List ℕ) → OutsetOf J O kinds'' nodes blocked''
      → causes' ≡ filled (for_shut_in verdict (tabled (volume J.room) (cause_of kinds'' nodes J S.source S.taps (branches_of S.lengths branches)))) causes

-- ---- the growth again

-- what a growth that ended early has come to
abbrev pub stopping_at : ℕ → Taps → Early → Stopping
stopping_at source taps early = record {
  source = source;
  taps = taps;
  lengths = record { count = taps.count; each = early.lengths.each };
  sink = early.sink;
  unreached = eqb (stop_number early.stop) no_goal_number;
}

-- the memory of a tree, its marks of what is occupied and of repeaters being clear
abbrev pub memory_of : Job → (branches kinds blocked classes joinable known previous path best queue : List ℕ) → Lent
memory_of job branches kinds blocked classes joinable known previous path best queue =
    lent branches (no_marks (volume job.room)) (no_marks (volume job.room)) kinds blocked classes joinable known previous path best queue

-- the same, its work memory in one struct
abbrev pub memory_with : Job → List ℕ → Memory → Lent
memory_with job branches M = lent_with branches (no_marks (volume job.room)) (no_marks (volume job.room)) M

-- what the tree of a job grows over
abbrev pub job_plot : Mode → Job → Outset → List ℕ → List ℕ → List ℕ → Plot
job_plot mode job O kinds queue branches =
    plot_of (record { room = job.room; config = job.config; mode = mode; run = job.run }) kinds queue branches O.ends.source O.ends.taps

-- a growth that stops
pub record Stops (P : Plot) (blocked : List ℕ) : Type 0 where
  pub number : ℕ
  pub detail : ℕ
  pub stops : growth_of P blocked ≡ stopped number detail

-- a job whose tree is set out, and whose growth stops
pub record Regrowable (mode : Mode) (sheet : List ℕ) (job : Job) (B : Lent) : Type 0 where
  pub routable : Routable sheet job B
  pub is-ready : (O : Outset) (kinds nodes blocked : List ℕ) → SetOut sheet O kinds nodes blocked → ready O ≡ true
  pub due : (O : Outset) (kinds nodes blocked : List ℕ) → SetOut sheet O kinds nodes blocked → Stops (job_plot mode job O kinds B.queue B.branches) blocked

-- the slices hold the tree of the turn that stops it
pub record Regrown (mode : Mode) (sheet : List ℕ) (job : Job) (queue branches : List ℕ) (r : Stopping) (kinds joinable blocked branches' : List ℕ) : Type 0 where
  pub outset : Outset
  pub nodes : List ℕ
  pub blocked-first : List ℕ
  pub is_set : SetOut sheet outset kinds nodes blocked-first
  pub is-ready : ready outset ≡ true
  pub sound : SoundPlot (job_plot mode job outset kinds queue branches)
  pub end : Early
  pub early : StoppedEarly (job_plot mode job outset kinds queue branches) blocked-first branches end.lengths.each joinable blocked branches' end.stop end.sink
  pub is : r ≡ stopping_at outset.ends.source outset.ends.taps end

-- ---- the reason

-- outputs that number 6 does not refuse
pub record SinkAsks (job : Job) (reached walls causes : List ℕ) : Type 0 where
  pub outputs : outputs_good job.room (length reached) (length walls) (length causes) ≡ true

-- this reason is told
pub record Tells (w : Reason) (reached walls causes : List ℕ) (r : Told) (reached' walls' causes' : List ℕ) : Type 0 where
  pub place_is : r.place ≡ w.place
  pub verdict-is : r.verdict ≡ w.verdict
  pub reached-is : reached' ≡ filled w.reached reached
  pub walls-is : walls' ≡ filled w.walls walls
  pub causes-is : causes' ≡ filled w.causes causes

-- of the turn at which this plot's growth stops
pub record TellsTurn (J : Contents) (P : Plot) (nodes blocked reached walls causes : List ℕ) (r : Told) (reached' walls' causes' : List ℕ) : Type 0 where
  pub turn : ℕ
  pub tree : Tree
  pub number : ℕ
  pub detail : ℕ
  pub there : StopsThere P blocked turn tree number detail
  pub tells : Tells (reason_at J P nodes tree (sink_now P turn) (verdict_of P tree (sink_now P turn) number)) reached walls causes r reached' walls' causes'

-- of the growth of a job
pub record SinkReasoned (mode : Mode) (sheet : List ℕ) (job : Job) (queue branches reached walls causes : List ℕ) (r : Told) (reached' walls' causes' : List ℕ) : Type 0 where
  pub contents : Contents
  pub means : Means sheet contents
  pub outset : Outset
  pub kinds : List ℕ
  pub nodes : List ℕ
  pub blocked : List ℕ
  pub is_set : SetOut sheet outset kinds nodes blocked
  pub is-ready : ready outset ≡ true
  pub tells : TellsTurn contents (job_plot mode job outset kinds queue branches) nodes blocked reached walls causes r reached' walls' causes'

-- ---- lent memory

-- the number of a tree's end, 0 for a tree
abbrev pub end_number : Answer → ℕ
end_number (Ok tree) = done_number
end_number (Err refused) = refused.number

-- a job whose growth stops, lent memory that suffices, and a clear branch buffer
pub record FrontAsked (mode : Mode) (sheet : List ℕ) (job : Job) (B : Lent) (reached walls causes : List ℕ) : Type 0 where
  pub accepted : Accepted sheet job
  pub enough : LongEnough (volume job.room) (lengths_of B)
  pub branches-clear : B.branches ≡ replicate (length B.branches) 0
  pub asks : SinkAsks job reached walls causes
  pub is-ready : (O : Outset) (kinds nodes blocked : List ℕ) → SetOut sheet O kinds nodes blocked → ready O ≡ true
  pub due : (O : Outset) (kinds nodes blocked : List ℕ) → SetOut sheet O kinds nodes blocked → Stops (job_plot mode job O kinds B.queue B.branches) blocked

-- the branch buffer and work memory are all zero
pub record StoppedTold (B B' : Lent) : Type 0 where
  pub branches-cleared : Cleared B.branches B'.branches
  pub kinds-cleared : Cleared B.kinds B'.kinds
  pub blocked-cleared : Cleared B.blocked B'.blocked
  pub classes-cleared : Cleared B.classes B'.classes
  pub joinable-cleared : Cleared B.joinable B'.joinable
  pub known-cleared : Cleared B.known B'.known
  pub previous-cleared : Cleared B.previous B'.previous
  pub path-cleared : Cleared B.path B'.path
  pub best-cleared : Cleared B.best B'.best
  pub queue-cleared : Cleared B.queue B'.queue

-- a sheet that is accepted is accepted as this job, and number 6 is not due for an output
pub record WhyAsked (sheet : List ℕ) (job : Job) (reached walls causes : List ℕ) : Type 0 where
  pub accepted : (J : Contents) → Means sheet J → judged (version_in sheet) J ≡ judgement.Good → Accepted sheet job
  pub outputs-good : (J : Contents) → Means sheet J → judged (version_in sheet) J ≡ judgement.Good → outputs_good J.room (length reached) (length walls) (length causes) ≡ true
