-- What the contracts of the finishing functions cite.
use Rattle.std.specs.Prelude.{◌≡◌, List, [], ℕ, ◌≤◌, ◌<◌, length, get_or}
use Rattle.basics.specs.Lists.{joined}
use Rattle.room.specs.declared.Room.{Room}
use Rattle.room.specs.Room.{Good, volume}
use Rattle.routing_resources.specs.Marks.{marked_by, no_marks, AllCells}
use Rattle.job_sheet.specs.Sheet.{max_sinks}
use Rattle.ends.specs.declared.Taps.{Taps}
use Rattle.ends.specs.Ends.{NetInside}
use Rattle.geometry.specs.Geometry.{stands_in}
use Rattle.branches.specs.declared.BranchLengths.{BranchLengths}
use Rattle.branches.specs.Branches.{SheetOrder, LengthsOf, Short}
use Rattle.repeaters.specs.NetEnds.{net_repeaters}
use Rattle.multinet.specs.Tree.{source_marks}
use Rattle.repeaters.specs.Masks.{Steps}

-- the buffer has these branches in sheet order
pub record BufferHolds (L : BranchLengths) (branches : List ℕ) (bs : List (List ℕ)) : Type 0 where
  pub in_order : SheetOrder bs (length (joined bs)) branches
  pub lengths-are : LengthsOf bs L.each
  pub count-is : length bs ≡ L.count

-- a grown tree, cleared marks, and work memory of exactly V cells
pub record Finishable (R : Room) (source : ℕ) (taps : Taps) (L : BranchLengths) (branches occupied repeaters forbidden links parents line : List ℕ) : Type 0 where
  pub good : Good R
  pub net : NetInside R source taps
  pub bs : List (List ℕ)
  pub holds : BufferHolds L branches bs
  pub few : L.count ≤ max_sinks
  pub lengths_short : Short L
  pub cells_in : (i : ℕ) → i < L.count → AllCells R (get_or bs i [])
  pub steps : (i : ℕ) → i < L.count → Steps R (get_or bs i [])
  pub occupied-clear : occupied ≡ no_marks (volume R)
  pub repeaters-clear : repeaters ≡ no_marks (volume R)
  pub forbidden-clear : forbidden ≡ no_marks (volume R)
  pub links-long : length links ≡ volume R
  pub parents-long : length parents ≡ volume R
  pub line-long : length line ≡ volume R

-- what the branches occupy, and their repeaters
pub record Finished (R : Room) (run source : ℕ) (taps : Taps) (L : BranchLengths) (branches occupied repeaters : List ℕ) : Type 0 where
  pub occupied-are : (bs : List (List ℕ)) → BufferHolds L branches bs → occupied ≡ marked_by (stands_in (joined bs)) (source_marks R source)
  pub repeaters-are : (bs : List (List ℕ)) → BufferHolds L branches bs → repeaters ≡ net_repeaters R run source taps bs
