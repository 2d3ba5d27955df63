-- "Blocked at the outset", as docs/RULES.md, The tree of one net, has it: which cells no branch may enter when the first search starts.
-- Definitions alone; their laws are in OutsetLaws.
use Rattle.std.specs.Prelude.{◌≡◌, Bool, true, false, not, ◌&&◌, ◌||◌, List, ℕ, ◌+◌, ◌<◌, eqb, length, get_or, Option, Some}
use Rattle.basics.specs.Tests.{either}
use Rattle.basics.specs.Lists.{any}
use Rattle.ends.specs.Ends.{taps_in, NetInside}
use Rattle.room.specs.declared.Room.{Room}
use Rattle.room.specs.declared.Pos.{Pos}
use Rattle.room.specs.Room.{Good, volume, cell_of, holds_at, beneath}
use Rattle.room.specs.Units.{air, solid, redstone_torch, repeater, lever, redstone_block, ahead}
use Rattle.routing_resources.specs.Marks.{marked_by, no_marks, is_cell}
use Rattle.routing_resources.specs.Resources.{in_keepout}
use Rattle.job_sheet.specs.declared.Block.{Block}
use Rattle.job_sheet.specs.declared.Part.{Part}
use Rattle.job_sheet.specs.declared.Job.{Job}
use Rattle.job_sheet.specs.Sheet.{Contents}
use Rattle.job_sheet.specs.Accepted.{PositionList, Usable}
use Rattle.job_sheet.specs.Places.{positions_in}
use Rattle.ends.specs.declared.Tap.{Tap}
use Rattle.ends.specs.declared.Taps.{Taps}

-- v is the cell of this position
abbrev pub stands_at : Room → ℕ → Pos → Bool
stands_at R v p = eqb (cell_of R p) v

-- "other nets' conductors, their keepouts"
abbrev pub near_conductor : Room → ℕ → Pos → Bool
near_conductor R v p = stands_at R v p || in_keepout R (cell_of R p) v

-- "RedstoneTorch, RedstoneBlock and Lever"
unfoldable pub powers : ℕ → Bool
powers kind = either (eqb kind redstone_torch) true (either (eqb kind redstone_block) true (eqb kind lever))

-- The room's blocks as two lists of one entry a cell: its kind, and one more than the node of its block, 0 where there is none.
-- "where that is a Solid block of the same node"
unfoldable pub solid_of : List ℕ → List ℕ → ℕ → ℕ → Bool
solid_of kinds nodes node v = eqb (get_or kinds v air) solid && eqb (get_or nodes v 0) (node + 1)

-- "the keepout of a Repeater's output cell (its cell plus its facing; none unless horizontal)"
abbrev pub output_keepout : Room → List ℕ → List ℕ → ℕ → Option ℕ → ℕ → Bool
output_keepout R kinds nodes node place v = holds_at (λ output. solid_of kinds nodes node output && in_keepout R output v) place

-- v is in the keepout that a block asks for
unfoldable pub block_keepout : Room → List ℕ → List ℕ → ℕ → Block → Bool
block_keepout R kinds nodes v b =
    either (powers b.kind) (in_keepout R (cell_of R b.at) v)
    (either (eqb b.kind repeater) (output_keepout R kinds nodes b.node (ahead R (cell_of R b.at) b.facing) v) false)

-- "other nets' conductors, their keepouts, clearances, terminals; reserved cells; the keepout of each .."
unfoldable pub blocked_by : List ℕ → List ℕ → Contents → ℕ → Bool
blocked_by kinds nodes J v =
    let R = J.room in
    any (near_conductor R v) J.conductors
    || (any (stands_at R v) J.clearances
    || (any (stands_at R v) J.terminals
    || (any (stands_at R v) J.reserved || any (block_keepout R kinds nodes v) J.blocks)))

-- a cell, and the one right beneath it
unfoldable pub at_or_beneath : Room → ℕ → ℕ → Bool
at_or_beneath R v cell = eqb cell v || is_cell (beneath R cell) v

abbrev pub tap_cell : Room → ℕ → Tap → Bool
tap_cell R v t = at_or_beneath R v t.terminal || at_or_beneath R v t.approach

-- "the source terminal, all sink terminals and approaches, and the cells right beneath them"
unfoldable pub own_cell : Room → ℕ → Taps → ℕ → Bool
own_cell R source k v = at_or_beneath R v source || any (tap_cell R v) (taps_in k)

-- "Then .. are taken out."
unfoldable pub blocked_at_outset : List ℕ → List ℕ → Contents → ℕ → Taps → List ℕ
blocked_at_outset kinds nodes J source k =
    marked_by (λ v. blocked_by kinds nodes J v && not (own_cell J.room source k v)) (no_marks (volume J.room))

-- ---- what the functions ask

-- a list of positions in a room, and marks of its cells
pub record PositionsListed (sheet : List ℕ) (R : Room) (p : Part) (marks : List ℕ) : Type 0 where
  pub good : Good R
  pub list : PositionList sheet R p (positions_in sheet p)
  pub long : length marks ≡ volume R

-- one entry a cell in each
pub record Sized (R : Room) (kinds nodes marks : List ℕ) : Type 0 where
  pub good : Good R
  pub kinds-long : length kinds ≡ volume R
  pub nodes-long : length nodes ≡ volume R
  pub long : length marks ≡ volume R

-- an output cell, where there is one, is in the room
pub record OutputKnown (R : Room) (kinds nodes : List ℕ) (output : Option ℕ) (marks : List ℕ) : Type 0 where
  pub sized : Sized R kinds nodes marks
  pub output_in : (v : ℕ) → output ≡ Some v → v < volume R

-- an accepted sheet, the room's blocks, a net whose ends are in the room, and cleared marks
pub record OutsetReady (sheet : List ℕ) (job : Job) (source : ℕ) (k : Taps) (kinds nodes marks : List ℕ) : Type 0 where
  pub contents : Contents
  pub usable : Usable sheet job contents
  pub sized : Sized job.room kinds nodes marks
  pub net : NetInside job.room source k
  pub clear : marks ≡ no_marks (volume job.room)

-- the marks are those of the outset, for whatever contents the job is usable as
pub record OutsetMarked (sheet : List ℕ) (job : Job) (source : ℕ) (k : Taps) (kinds nodes marks : List ℕ) : Type 0 where
  pub is : (J : Contents) → Usable sheet job J → marks ≡ blocked_at_outset kinds nodes J source k
