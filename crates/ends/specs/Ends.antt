-- The ends of one net: which of numbers 8 and 9 is due for which of them, and else where its wire begins and ends. Definitions alone; their laws are
-- in EndLaws.
use Rattle.std.specs.Prelude.{◌≡◌, Bool, true, false, List, [], ◌∷◌, ◌++◌, map, ℕ, suc, ◌-◌, ◌≤◌, ◌<◌, eqb, length, get_or, take, replicate, Option, Some, None, Result, Ok, Err}
use Rattle.std.specs.Result.{result_err}
use Rattle.numbers.specs.Refusals.{port_facing_number, end_outside_number}
use Rattle.basics.specs.Tests.{either}
use Rattle.room.specs.declared.Room.{Room}
use Rattle.room.specs.Room.{volume}
use Rattle.room.specs.Units.{wire}
use Rattle.port_realization.specs.declared.EndFault.{EndFault}
use Rattle.port_realization.specs.declared.Realized.{Realized}
use Rattle.port_realization.specs.Ports.{terminal_of, realized_of}
use Rattle.job_sheet.specs.declared.Endpoint.{Endpoint}
use Rattle.job_sheet.specs.declared.Sink.{Sink}
use Rattle.job_sheet.specs.declared.Sinks.{Sinks}
use Rattle.job_sheet.specs.Sheet.{max_sinks}
use Rattle.ends.specs.declared.Tap.{Tap}
use Rattle.ends.specs.declared.Taps.{Taps}
use Rattle.ends.specs.declared.Ends.{Ends}
use Rattle.ends.specs.declared.Fault.{Fault}
use Rattle.ends.specs.declared.Unrealized.{Unrealized}

-- the sinks in use, of those that travel as one value
abbrev pub sinks_in : Sinks → List Sink
sinks_in k = take k.count k.ends

-- a source has no approach: its terminal stands for both
abbrev pub without_approach : Result ℕ EndFault → Result Realized EndFault
without_approach (Ok cell) = Ok (record { terminal = cell; approach = cell })
without_approach (Err fault) = Err fault

-- the source as the wire meets it
unfoldable pub source_end : Room → Endpoint → Result Realized EndFault
source_end R e = without_approach (terminal_of R e.at e.port e.facing)

-- a sink as the wire meets it
unfoldable pub sink_end : Room → Sink → Result Realized EndFault
sink_end R k = let e = k.end in realized_of R e.at e.port e.facing

-- what is due for an end: number 8, number 9 or neither
abbrev pub due_for : Result Realized EndFault → Option EndFault
due_for r = result_err r

-- that, and no other, is due
abbrev pub is_due : EndFault → Option EndFault → Bool
is_due due None = false
is_due EndFault.NoFacing (Some EndFault.NoFacing) = true
is_due EndFault.NoFacing (Some EndFault.Outside) = false
is_due EndFault.Outside (Some EndFault.NoFacing) = false
is_due EndFault.Outside (Some EndFault.Outside) = true

-- "0 source, k-th sink k": the place of the first end for which that is due, counted on from `place`
unfoldable pub first_due : EndFault → ℕ → List (Result Realized EndFault) → Option ℕ
first_due due place [] = None
first_due due place (r ∷ rs) = either (is_due due (due_for r)) (Some place) (first_due due (suc place) rs)

-- the source, then the sinks in sheet order
abbrev pub ends_at : Room → Endpoint → List Sink → List (Result Realized EndFault)
ends_at R source sinks = source_end R source ∷ map (sink_end R) sinks

-- what stands in a place of `Taps` that no sink takes
abbrev pub no_tap : Tap
no_tap = record { terminal = 0; approach = 0; wire = false; tail = 0 }

-- where an end meets the wire, what its port is, and its tail limit
abbrev pub tap_from : Bool → ℕ → Result Realized EndFault → Tap
tap_from isWire limit (Ok r) = record { terminal = r.terminal; approach = r.approach; wire = isWire; tail = limit }
tap_from isWire limit (Err fault) = no_tap

-- a sink's tap: its terminal and approach, whether its port is Wire, and its tail limit
unfoldable pub tap_of : Room → Sink → Tap
tap_of R k = tap_from (eqb k.end.port wire) k.tail (sink_end R k)

-- the taps in use, one a sink
abbrev pub taps_in : Taps → List Tap
taps_in k = take k.count k.taps

-- one tap a sink, then places that hold nothing
abbrev pub taps_of : Room → List Sink → Taps
taps_of R sinks = record { count = length sinks; taps = map (tap_of R) sinks ++ replicate (max_sinks - length sinks) no_tap }

-- the terminal of a source, 0 where a number is due for it
abbrev pub terminal_in : Result Realized EndFault → ℕ
terminal_in (Ok r) = r.terminal
terminal_in (Err fault) = 0

-- 8 or 9
abbrev pub fault_number : EndFault → ℕ
fault_number EndFault.NoFacing = port_facing_number
fault_number EndFault.Outside = end_outside_number

-- "all of 8, all of 9"
abbrev pub fault_by : Option ℕ → Option ℕ → Option Fault
fault_by (Some place) later = Some (record { due = EndFault.NoFacing; place = place })
fault_by None (Some place) = Some (record { due = EndFault.Outside; place = place })
fault_by None None = None

-- number 8 or 9 with its detail, or neither
unfoldable pub fault_of : Room → Endpoint → List Sink → Option Fault
fault_of R source sinks = fault_by (first_due EndFault.NoFacing 0 (ends_at R source sinks)) (first_due EndFault.Outside 0 (ends_at R source sinks))

-- the ends of one net: zeros for each of which a number is due
unfoldable pub ends_of : Room → Endpoint → List Sink → Ends
ends_of R source sinks = record { source = terminal_in (source_end R source); taps = taps_of R sinks }

-- these ends, or a fault beside them
abbrev pub unless : Option Fault → Ends → Result Ends Unrealized
unless (Some fault) ends = Err (record { fault = fault; ends = ends })
unless None ends = Ok ends

-- the ends of one net, or number 8 or 9 and the ends that are good: what `realize_ends` promises
abbrev pub realized_ends : Room → Endpoint → List Sink → Result Ends Unrealized
realized_ends R source sinks = unless (fault_of R source sinks) (ends_of R source sinks)

-- ---- what the functions ask

-- sinks that no number refuses: their terminals and approaches are in the room
pub record TapsInside (R : Room) (k : Taps) : Type 0 where
  pub few : k.count ≤ max_sinks
  pub whole : length k.taps ≡ max_sinks
  pub terminal_in_lem : (i : ℕ) → i < k.count → (get_or k.taps i no_tap).terminal < volume R
  pub approach_in : (i : ℕ) → i < k.count → (get_or k.taps i no_tap).approach < volume R

-- a net whose ends no number refuses: its source, too, is in the room
pub record NetInside (R : Room) (source : ℕ) (k : Taps) : Type 0 where
  pub source_in : source < volume R
  pub taps_in_lem : TapsInside R k
