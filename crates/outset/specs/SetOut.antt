-- A tree set out: the room's blocks, the net's ends and what is blocked, or number 7, 8 or 9. Definitions alone; their laws are in SetOutLaws.
use Rattle.std.specs.Prelude.{◌≡◌, Bool, true, false, List, ℕ, length, Option, Some, None, Result, Ok, Err}
use Rattle.numbers.specs.Refusals.{done_number, overlap_number}
use Rattle.basics.specs.Tests.{either}
use Rattle.room.specs.Room.{volume}
use Rattle.routing_resources.specs.Marks.{no_marks}
use Rattle.job_sheet.specs.declared.Job.{Job}
use Rattle.job_sheet.specs.Sheet.{Contents, Means}
use Rattle.job_sheet.specs.Accepted.{Accepted}
use Rattle.blocks.specs.Blocks.{Placement, kinds_of, nodes_of, BlocksLaid}
use Rattle.ends.specs.declared.Fault.{Fault}
use Rattle.ends.specs.declared.Ends.{Ends}
use Rattle.ends.specs.declared.Unrealized.{Unrealized}
use Rattle.ends.specs.Ends.{fault_number, fault_of, ends_of}
use Rattle.outset.specs.declared.Refusal.{Refusal}
use Rattle.outset.specs.declared.NotSetOut.{NotSetOut}
use Rattle.blocks.specs.declared.Overlap.{Overlap}
use Rattle.outset.specs.Outset.{blocked_at_outset}

-- what setting a tree out comes to: whether each block has a cell of its own, whether a number is due for an end, and the net's ends, with zeros for each of which one is
pub record Outset : Type 0 where
  pub placement : Placement
  pub fault : Option Fault
  pub ends : Ends

-- no number is due
abbrev pub ready_by : Placement → Option Fault → Bool
ready_by (Err overlap) fault = false
ready_by (Ok placed) None = true
ready_by (Ok placed) (Some fault) = false

abbrev pub ready : Outset → Bool
ready r = ready_by r.placement r.fault

-- "7, all of 8, all of 9", with their details; 0 where none is due
abbrev pub number_by : Placement → Option Fault → ℕ
number_by (Err overlap) fault = overlap_number
number_by (Ok placed) None = done_number
number_by (Ok placed) (Some fault) = fault_number fault.due

abbrev pub detail_by : Placement → Option Fault → ℕ
detail_by (Err overlap) fault = overlap.cell
detail_by (Ok placed) None = 0
detail_by (Ok placed) (Some fault) = fault.place

-- the number of a refusal, and its detail
abbrev pub refusal_number : Refusal → ℕ
refusal_number (Refusal.Blocks overlap) = overlap_number
refusal_number (Refusal.End fault) = fault_number fault.due

abbrev pub refusal_detail : Refusal → ℕ
refusal_detail (Refusal.Blocks overlap) = overlap.cell
refusal_detail (Refusal.End fault) = fault.place

-- the ends, or the first number that is due, with what is wrong with the ends and those that are good
abbrev pub told_by : Placement → Option Fault → Ends → Result Ends NotSetOut
told_by (Err overlap) fault ends = Err (record { refusal = Refusal.Blocks overlap; fault = fault; ends = ends })
told_by (Ok placed) (Some fault) ends = Err (record { refusal = Refusal.End fault; fault = Some fault; ends = ends })
told_by (Ok placed) None ends = Ok ends

-- so it is at number 7, of what the ends come to, and at 8 and 9
abbrev pub told_at_overlap : Overlap → Result Ends Unrealized → NotSetOut
told_at_overlap overlap (Ok ends) = record { refusal = Refusal.Blocks overlap; fault = None; ends = ends }
told_at_overlap overlap (Err unrealized) = record { refusal = Refusal.Blocks overlap; fault = Some unrealized.fault; ends = unrealized.ends }

abbrev pub told_at_end : Unrealized → NotSetOut
told_at_end unrealized = record { refusal = Refusal.End unrealized.fault; fault = Some unrealized.fault; ends = unrealized.ends }

-- the tree of this job is set out
pub record OutsetOf (J : Contents) (r : Outset) (kinds nodes blocked : List ℕ) : Type 0 where
  pub laid : BlocksLaid J.room J.blocks kinds nodes r.placement
  pub fault-is : r.fault ≡ fault_of J.room J.source J.sinks
  pub ends-are : r.ends ≡ ends_of J.room J.source J.sinks
  pub blocked-are : blocked
      ≡ either (ready r) (blocked_at_outset (kinds_of J.room J.blocks) (nodes_of J.room J.blocks) J r.ends.source r.ends.taps) (no_marks (volume J.room))

-- an accepted sheet, and a buffer of one entry a cell for each of the three
pub record OutsetAsked (sheet : List ℕ) (job : Job) (kinds nodes blocked : List ℕ) : Type 0 where
  pub accepted : Accepted sheet job
  pub kinds-long : length kinds ≡ volume job.room
  pub nodes-long : length nodes ≡ volume job.room
  pub blocked-long : length blocked ≡ volume job.room

-- the tree of what the sheet means is set out
pub record SetOut (sheet : List ℕ) (r : Outset) (kinds nodes blocked : List ℕ) : Type 0 where
  pub is : (J : Contents) → Means sheet J → OutsetOf J r kinds nodes blocked

-- the tree of what the sheet means is set out, and the answer tells of it
pub record OutsetTold (sheet : List ℕ) (r : Result Ends NotSetOut) (kinds nodes blocked : List ℕ) : Type 0 where
  pub outset : Outset
  pub is_set : SetOut sheet outset kinds nodes blocked
  pub told : r ≡ told_by outset.placement outset.fault outset.ends
