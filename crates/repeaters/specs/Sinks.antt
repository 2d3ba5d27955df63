-- What planning and placing the repeaters ask of their parameters.
use Rattle.std.specs.Prelude.{◌≡◌, List, ℕ, ◌<◌, length}
use Rattle.room.specs.declared.Room.{Room}
use Rattle.room.specs.Room.{Good, volume}
use Rattle.trace.specs.Traces.{PreviousInside}
use Rattle.routing_resources.specs.Marks.{no_marks}
use Rattle.ends.specs.declared.Taps.{Taps}
use Rattle.ends.specs.Ends.{TapsInside, NetInside}
use Rattle.branches.specs.declared.BranchLengths.{BranchLengths}
use Rattle.repeaters.specs.Masks.{BranchesReady}

-- the tree with its parents, in lent memory
pub record TreeReady (R : Room) (links parents forbidden : List ℕ) : Type 0 where
  pub good : Good R
  pub links-long : length links ≡ volume R
  pub parents-long : length parents ≡ volume R
  pub parents-inside : PreviousInside parents
  pub forbidden-long : length forbidden ≡ volume R

-- what planning the repeaters of a tree asks of its parameters
pub record Plannable (R : Room) (source : ℕ) (T : Taps) (L : BranchLengths) (cells forbidden repeaters links parents line : List ℕ) : Type 0 where
  pub good : Good R
  pub source_in : source < volume R
  pub taps_in_lem : TapsInside R T
  pub laid : BranchesReady R L cells
  pub forbidden-long : length forbidden ≡ volume R
  pub unmarked : repeaters ≡ no_marks (volume R)
  pub links-long : length links ≡ volume R
  pub parents-long : length parents ≡ volume R
  pub line-long : length line ≡ volume R

-- what placing the repeaters of a net asks: its ends in the room, its branches, cleared marks, and work memory of exactly V cells
pub record Placeable (R : Room) (source : ℕ) (T : Taps) (L : BranchLengths) (cells repeaters forbidden links parents line : List ℕ) : Type 0 where
  pub good : Good R
  pub net : NetInside R source T
  pub laid : BranchesReady R L cells
  pub repeaters-clear : repeaters ≡ no_marks (volume R)
  pub forbidden-clear : forbidden ≡ no_marks (volume R)
  pub links-long : length links ≡ volume R
  pub parents-long : length parents ≡ volume R
  pub line-long : length line ≡ volume R
