-- What the functions that lay a net ask of their parameters, and what they hand on.
use Rattle.std.specs.Prelude.{◌≡◌, List, ℕ, ◌≤◌, ◌<◌, length}
use Rattle.room.specs.declared.Room.{Room}
use Rattle.room.specs.Room.{Good, volume}
use Rattle.trace.specs.Traces.{PreviousInside}
use Rattle.walk.specs.Walks.{parents_from}
use Rattle.job_sheet.specs.Sheet.{max_sinks}
use Rattle.ends.specs.declared.Taps.{Taps}
use Rattle.ends.specs.Ends.{taps_in, NetInside}
use Rattle.branches.specs.declared.BranchLengths.{BranchLengths}
use Rattle.branches.specs.Branches.{branches_of}
use Rattle.repeaters.specs.Repeaters.{tree_neighbours}
use Rattle.repeaters.specs.Links.{linked_cells}
use Rattle.repeaters.specs.Masks.{BranchesReady}
use Rattle.laying.specs.Laying.{Net}

-- a kind and a facing for each cell
pub record RoomHeld (R : Room) (kinds facings : List ℕ) : Type 0 where
  pub good : Good R
  pub kinds-long : length kinds ≡ volume R
  pub facings-long : length facings ≡ volume R

-- the taps that are counted are there
pub record TapsHeld (T : Taps) : Type 0 where
  pub few : T.count ≤ max_sinks
  pub whole : length T.taps ≡ max_sinks

-- the marks of a net, and the tree neighbours of each cell as masks
pub record MarksHeld (R : Room) (occupied repeaters links : List ℕ) : Type 0 where
  pub occupied-long : length occupied ≡ volume R
  pub repeaters-long : length repeaters ≡ volume R
  pub links-long : length links ≡ volume R

-- each cell's parent, as one more than its number
pub record ParentsHeld (R : Room) (parents : List ℕ) : Type 0 where
  pub long : length parents ≡ volume R
  pub inside : PreviousInside parents

-- ---- the tree, rooted in work memory

pub record Rootable (R : Room) (source : ℕ) (L : BranchLengths) (cells links parents line : List ℕ) : Type 0 where
  pub good : Good R
  pub source_in : source < volume R
  pub ready : BranchesReady R L cells
  pub links-long : length links ≡ volume R
  pub parents-long : length parents ≡ volume R
  pub line-long : length line ≡ volume R

pub record TreeRooted (R : Room) (source : ℕ) (branches : List (List ℕ)) (links parents : List ℕ) : Type 0 where
  pub near : linked_cells R links ≡ tree_neighbours branches (volume R)
  pub rooted : parents ≡ parents_from (tree_neighbours branches (volume R)) (volume R) source
  pub held : ParentsHeld R parents

-- ---- the whole net

-- the net as it is handed over
abbrev pub net_of : ℕ → Taps → BranchLengths → List ℕ → List ℕ → List ℕ → Net
net_of s T L cells o r = record { source = s; taps = taps_in T; branches = branches_of L cells; occupied = o; repeaters = r }

pub record Layable (R : Room) (source : ℕ) (T : Taps) (L : BranchLengths) (cells occupied repeaters kinds facings links parents line : List ℕ) : Type 0 where
  pub good : Good R
  pub net : NetInside R source T
  pub ready : BranchesReady R L cells
  pub occupied-long : length occupied ≡ volume R
  pub repeaters-long : length repeaters ≡ volume R
  pub kinds-long : length kinds ≡ volume R
  pub facings-long : length facings ≡ volume R
  pub links-long : length links ≡ volume R
  pub parents-long : length parents ≡ volume R
  pub line-long : length line ≡ volume R
