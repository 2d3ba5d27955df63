-- What the contracts of the entry's parts cite.
use Rattle.std.specs.Prelude.{◌≡◌, List, ◌++◌, ℕ, ◌≤◌, length, drop, replicate, [], Option, Some, None, Result, Ok, Err}
use Rattle.room.specs.declared.Room.{Room}
use Rattle.room.specs.Room.{Good, volume}
use Rattle.ends.specs.declared.Taps.{Taps}
use Rattle.ends.specs.declared.Fault.{Fault}
use Rattle.ends.specs.declared.Ends.{Ends}
use Rattle.ends.specs.declared.Unrealized.{Unrealized}
use Rattle.ends.specs.Ends.{fault_number, NetInside}
use Rattle.branches.specs.declared.BranchLengths.{BranchLengths}
use Rattle.branches.specs.Branches.{marked_count}
use Rattle.repeaters.specs.Masks.{BranchesReady}
use Rattle.repeaters.specs.NetEnds.{net_repeaters}
use Rattle.repeater_plan.specs.declared.Refused.{Refused}
use Rattle.repeater_plan.specs.Plan.{Lent, Outcome, answer_of, lent_after}

-- memory that suffices for each cell
pub record Enough (R : Room) (B : Lent) : Type 0 where
  pub repeaters-enough : volume R ≤ length B.repeaters
  pub forbidden-enough : volume R ≤ length B.forbidden
  pub links-enough : volume R ≤ length B.links
  pub parents-enough : volume R ≤ length B.parents
  pub line-enough : volume R ≤ length B.line

-- a net that no number refuses, with its branches, and memory that suffices, whatever it holds
pub record Lendable (R : Room) (source : ℕ) (taps : Taps) (L : BranchLengths) (cells : List ℕ) (B : Lent) : Type 0 where
  pub good : Good R
  pub net : NetInside R source taps
  pub laid : BranchesReady R L cells
  pub enough : Enough R B

-- the same over cleared marks
pub record Frontable (R : Room) (source : ℕ) (taps : Taps) (L : BranchLengths) (cells : List ℕ) (B : Lent) : Type 0 where
  pub lendable : Lendable R source taps L cells B
  pub repeaters-clear : B.repeaters ≡ replicate (length B.repeaters) 0
  pub forbidden-clear : B.forbidden ≡ replicate (length B.forbidden) 0

-- the marks are in front, and behind them is what was there; they are counted
pub record FrontPlaced (marks : List ℕ) (R : Room) (repeaters : List ℕ) (r : ℕ) (repeaters' : List ℕ) : Type 0 where
  pub long : length marks ≡ volume R
  pub is : repeaters' ≡ marks ++ drop (volume R) repeaters
  pub count : r ≡ marked_count marks

-- so it is where no number is due; else nothing is marked
abbrev pub PlacedBy : Option Fault → List ℕ → Room → List ℕ → Result ℕ Refused → List ℕ → Type 0
PlacedBy None marks R repeaters r repeaters' =
    (r ≡ Ok (marked_count marks)) × (length marks ≡ volume R) × (repeaters' ≡ marks ++ drop (volume R) repeaters)
PlacedBy (Some fault) marks R repeaters r repeaters' = (r ≡ Err (record { number = fault_number fault.due; detail = fault.place })) × (repeaters' ≡ repeaters)

-- what is wrong with a net's ends, if anything is
abbrev pub fault_in : Result Ends Unrealized → Option Fault
fault_in (Ok ends) = None
fault_in (Err unrealized) = Some unrealized.fault

-- the repeaters of a net whose ends these are; none where a number is due for one
abbrev pub marks_with : Room → ℕ → List (List ℕ) → Result Ends Unrealized → List ℕ
marks_with R run branches (Ok e) = net_repeaters R run e.source e.taps branches
marks_with R run branches (Err unrealized) = []

-- what comes of it is answered, and left in lent memory
pub record Settled (o : Outcome) (B : Lent) (r : Result ℕ Refused) (B' : Lent) : Type 0 where
  pub answer : r ≡ answer_of o
  pub lent_is : B' ≡ lent_after o B
