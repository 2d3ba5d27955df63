-- What the contracts of one net's routing cite. Definitions alone; their laws are in RouteLaws.
use Rattle.std.specs.Prelude.{◌≡◌, Bool, List, ℕ, ◌<◌, length, replicate}
use Rattle.room.specs.Room.{volume}
use Rattle.ground.specs.declared.Mode.{Mode}
use Rattle.room_search.specs.TriedMoves.{places_of}
use Rattle.routing_resources.specs.Marks.{is_marked, no_marks}
use Rattle.job_sheet.specs.declared.Job.{Job}
use Rattle.job_sheet.specs.Sheet.{Contents}
use Rattle.job_sheet.specs.Accepted.{Accepted}
use Rattle.ends.specs.declared.Ends.{Ends}
use Rattle.outset.specs.SetOut.{OutsetOf}
use Rattle.multinet.specs.Tree.{Plot, growth_of}
use Rattle.multinet.specs.Growing.{SoundPlot}
use Rattle.net_tree.specs.Answers.{Answer, Lent, answer_of, outcome_of}
use Rattle.net_tree.specs.Entry.{OutputsHold}
use Rattle.job_list.specs.declared.Memory.{Memory}
use Rattle.job_list.specs.Judged.{contents_at}
use Rattle.job_list.specs.GoodNets.{GoodNet}
use Rattle.other_nets.specs.Others.{ends_at}
use Rattle.other_nets.specs.OtherLaws.{ListReady}
use Rattle.nets.specs.Nets.{kinds_at, nodes_at, outset_at, blocked_at, net_outcome}

-- a net of a list for which no number is due, its job, marks of the nets before, and a buffer of one entry a cell for each of the three
pub record PrepareAsked (list sheet : List ℕ) (job : Job) (before kinds nodes blocked : List ℕ) : Type 0 where
  pub memory : Memory
  pub first : Contents
  pub place : ℕ
  pub net : GoodNet memory first place sheet
  pub accepted : Accepted sheet job
  pub ready : ListReady job.room list blocked
  pub before-long : length before ≡ volume job.room
  pub kinds-long : length kinds ≡ volume job.room
  pub nodes-long : length nodes ≡ volume job.room

-- the net set out, and what is blocked for it in the list
pub record Prepared (list sheet : List ℕ) (k : ℕ) (before : List ℕ) (r : Ends) (kinds nodes blocked : List ℕ) : Type 0 where
  pub ends-are : r ≡ ends_at sheet
  pub kinds-are : kinds ≡ kinds_at sheet
  pub alone : List ℕ
  pub outset : OutsetOf (contents_at sheet) (outset_at sheet) kinds nodes alone
  pub blocked-are : blocked ≡ blocked_at list k (is_marked before) sheet

-- the same, cleared outputs, and work memory of exactly V cells
pub record NetAsked (list sheet : List ℕ) (job : Job) (before : List ℕ) (B : Lent) : Type 0 where
  pub asked : PrepareAsked list sheet job before B.kinds B.known B.blocked
  pub branches-clear : B.branches ≡ replicate (length B.branches) 0
  pub occupied-clear : B.occupied ≡ no_marks (volume job.room)
  pub repeaters-clear : B.repeaters ≡ no_marks (volume job.room)
  pub classes-long : length B.classes ≡ volume job.room
  pub joinable-long : length B.joinable ≡ volume job.room
  pub previous-long : length B.previous ≡ volume job.room
  pub path-long : length B.path ≡ volume job.room
  pub best-long : length B.best ≡ volume job.room
  pub places-some : 0 < places_of B.queue

-- what the net comes to, and the sound plot that its tree grows over
pub record NetRouted (mode : Mode) (list sheet : List ℕ) (k : ℕ) (before : List ℕ) (B : Lent) (r : Answer) (branches' occupied' repeaters' : List ℕ) : Type 0 where
  pub answer : r ≡ answer_of (net_outcome mode list (length B.queue) k (is_marked before) (length B.branches) sheet)
  pub outputs : OutputsHold (net_outcome mode list (length B.queue) k (is_marked before) (length B.branches) sheet) B.branches branches' occupied' repeaters'
  pub plot : Plot
  pub marks : List ℕ
  pub sound : SoundPlot plot
  pub grows : net_outcome mode list (length B.queue) k (is_marked before) (length B.branches) sheet ≡ outcome_of plot (growth_of plot marks)
  pub room-is : plot.room ≡ (contents_at sheet).room
  pub source_is : plot.source ≡ (ends_at sheet).source
  pub taps-are : plot.taps ≡ (ends_at sheet).taps
