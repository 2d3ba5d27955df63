-- Why a cell is blocked at a sink's turn: one bit a reason, each set exactly where it holds. The first six are what docs/RULES.md, The tree of one net, has
-- as blocked at the outset, but for the net's own cells, which were taken out; the last is the clearances of the branches that the net has so far.
-- Definitions alone; their laws are in the files named Laws.
use Rattle.std.specs.Prelude.{◌≡◌, Bool, List, [], ℕ, ◌+◌, ◌<◌, length, get_or}
use Rattle.basics.specs.Tests.{either}
use Rattle.basics.specs.Lists.{any}
use Rattle.room.specs.declared.Room.{Room}
use Rattle.room.specs.declared.Pos.{Pos}
use Rattle.room.specs.Room.{volume, cell_of}
use Rattle.routing_resources.specs.Marks.{AllCells}
use Rattle.routing_resources.specs.Resources.{in_keepout, is_clearance}
use Rattle.job_sheet.specs.declared.Job.{Job}
use Rattle.job_sheet.specs.Sheet.{Contents}
use Rattle.job_sheet.specs.Accepted.{Usable}
use Rattle.ends.specs.declared.Taps.{Taps}
use Rattle.ends.specs.Ends.{NetInside}
use Rattle.outset.specs.Outset.{stands_at, block_keepout, own_cell, Sized}
use Rattle.branches.specs.declared.BranchLengths.{BranchLengths}
use Rattle.branches.specs.Branches.{branches_of, Branched}
use Rattle.flood.specs.Walls.{tabled}

-- ---- the bits

abbrev pub conductor_bit : ℕ
conductor_bit = 1

abbrev pub keepout_bit : ℕ
keepout_bit = 2

abbrev pub clearance_bit : ℕ
clearance_bit = 4

abbrev pub terminal_bit : ℕ
terminal_bit = 8

abbrev pub reserved_bit : ℕ
reserved_bit = 16

abbrev pub block_bit : ℕ
block_bit = 32

abbrev pub own_bit : ℕ
own_bit = 64

-- a bit, where its reason holds
abbrev pub bit_for : ℕ → Bool → ℕ
bit_for weight holds = either holds weight 0

-- ---- the reasons

-- v is in the keepout of another net's conductor at this position
abbrev pub beside_conductor : Room → ℕ → Pos → Bool
beside_conductor R v p = in_keepout R (cell_of R p) v

-- "other nets' conductors, their keepouts, clearances, terminals; reserved cells; the keepout of each .."
unfoldable pub foreign_cause : List ℕ → List ℕ → Contents → ℕ → ℕ
foreign_cause kinds nodes J v =
    let R = J.room in
    bit_for conductor_bit (any (stands_at R v) J.conductors)
    + bit_for keepout_bit (any (beside_conductor R v) J.conductors)
    + bit_for clearance_bit (any (stands_at R v) J.clearances)
    + bit_for terminal_bit (any (stands_at R v) J.terminals)
    + bit_for reserved_bit (any (stands_at R v) J.reserved)
    + bit_for block_bit (any (block_keepout R kinds nodes v) J.blocks)

-- v is a clearance of one of these branches
abbrev pub cleared_by : Room → ℕ → List ℕ → Bool
cleared_by R v branch = is_clearance R branch v

-- what a cell is blocked by where the net has these branches
unfoldable pub cause_of : List ℕ → List ℕ → Contents → ℕ → Taps → List (List ℕ) → ℕ → ℕ
cause_of kinds nodes J source taps branches v =
    either (own_cell J.room source taps v) 0 (foreign_cause kinds nodes J v) + bit_for own_bit (any (cleared_by J.room v) branches)

-- ---- what the functions ask

-- one byte a cell, each below this bit
pub record BitFree (n weight : ℕ) (causes : List ℕ) : Type 0 where
  pub long : length causes ≡ n
  pub small : (v : ℕ) → v < n → get_or causes v 0 < weight

-- the bit is added where the reason holds
pub record BitAdded (n weight : ℕ) (reason : ℕ → Bool) (causes causes' : List ℕ) : Type 0 where
  pub long : length causes' ≡ n
  pub each : (v : ℕ) → v < n → get_or causes' v 0 ≡ get_or causes v 0 + bit_for weight (reason v)

-- the branches stand one behind the other in the buffer, and their cells are in the room
pub record OwnBranches (R : Room) (L : BranchLengths) (cells : List ℕ) : Type 0 where
  pub branched : Branched L cells
  pub cells_in : (k : ℕ) → k < L.count → AllCells R (get_or (branches_of L cells) k [])

-- a sheet that can be used, the room's blocks, and one byte a cell for the causes
pub record ForeignAsked (sheet : List ℕ) (job : Job) (kinds nodes marks causes : List ℕ) : Type 0 where
  pub contents : Contents
  pub usable : Usable sheet job contents
  pub sized : Sized job.room kinds nodes marks
  pub causes-long : length causes ≡ volume job.room

-- the same, and the net's ends and branches
pub record CausesAsked (sheet : List ℕ) (job : Job) (source : ℕ) (taps : Taps) (kinds nodes : List ℕ) (L : BranchLengths) (branches marks causes : List ℕ) : Type 0 where
  pub foreign : ForeignAsked sheet job kinds nodes marks causes
  pub net : NetInside job.room source taps
  pub own : OwnBranches job.room L branches

-- each cell's first six bits, for whatever contents the job is usable as
pub record ForeignTold (sheet : List ℕ) (job : Job) (kinds nodes causes : List ℕ) : Type 0 where
  pub long : length causes ≡ volume job.room
  pub each : (J : Contents) → Usable sheet job J → (v : ℕ) → v < volume job.room → get_or causes v 0 ≡ foreign_cause kinds nodes J v

-- each cell's causes
pub record CausesTold (sheet : List ℕ) (job : Job) (source : ℕ) (taps : Taps) (kinds nodes : List ℕ) (branches : List (List ℕ)) (causes : List ℕ) : Type 0 where
  pub are : (J : Contents) → Usable sheet job J → causes ≡ tabled (volume J.room) (cause_of kinds nodes J source taps branches)
