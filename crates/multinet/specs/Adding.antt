-- What the contracts of `add_branch` and `place_branch` cite.
use Rattle.std.specs.Prelude.{◌≡◌, Result, Ok, Err, List, ℕ, ◌+◌, ◌*◌, ◌≤◌, ◌<◌, length, take}
use Rattle.room.specs.declared.Room.{Room}
use Rattle.room.specs.Room.{Good, volume, max_volume}
use Rattle.routing_resources.specs.Marks.{marked_by, AllCells}
use Rattle.routing_resources.specs.Resources.{is_clearance}
use Rattle.geometry.specs.Geometry.{stands_in}
use Rattle.ends.specs.declared.Tap.{Tap}
use Rattle.job_sheet.specs.Sheet.{max_sinks}
use Rattle.branches.specs.declared.BranchLengths.{BranchLengths}
use Rattle.branches.specs.Branches.{branch_of, all_but_last, inserted, sum, Short, lengths_in, longest_branch}
use Rattle.multinet.specs.declared.Grown.{Grown}
use Rattle.multinet.specs.declared.Stopped.{Stopped}
use Rattle.multinet.specs.declared.Stop.TheVariants.{BufferFull}

-- a path of the room, a place for its branch, and marks of the room's cells
pub record Addable (R : Room) (at used len : ℕ) (tap : Tap) (path branches joinable blocked : List ℕ) : Type 0 where
  pub good : Good R
  pub at-within : at ≤ used
  pub fits : used + length (branch_of tap path) ≤ length branches
  pub some : 1 ≤ length path
  pub short : length path ≤ max_volume
  pub path_in : AllCells R path
  pub terminal_in_lem : tap.terminal < volume R
  pub len_is : len ≡ length (branch_of tap path)
  pub joinable-long : length joinable ≡ volume R
  pub blocked-long : length blocked ≡ volume R

-- "All but the last cell become joinable; .. the branch's clearances become blocked."
pub record BranchAdded (R : Room) (at used : ℕ) (tap : Tap) (path branches joinable blocked branches' joinable' blocked' : List ℕ) : Type 0 where
  pub branches-are : branches' ≡ inserted at used (branch_of tap path) branches
  pub joinable-are : joinable' ≡ marked_by (stands_in (all_but_last (branch_of tap path))) joinable
  pub blocked-are : blocked' ≡ marked_by (is_clearance R (branch_of tap path)) blocked

-- how many cells the branches before this sink's have, and all of them
abbrev pub before_sink : BranchLengths → ℕ → ℕ
before_sink L k = sum (take k L.each)

abbrev pub used_by : BranchLengths → ℕ
used_by L = sum (lengths_in L)

-- a path of the room, and branches whose lengths are known
pub record BranchPlaceable (R : Room) (k : ℕ) (L : BranchLengths) (tap : Tap) (path joinable blocked : List ℕ) : Type 0 where
  pub good : Good R
  pub few : L.count ≤ max_sinks
  pub sink_in : k < L.count
  pub lengths_short : Short L
  pub at-within : before_sink L k ≤ used_by L
  pub used-short : used_by L ≤ max_sinks * longest_branch
  pub some : 1 ≤ length path
  pub short : length path ≤ max_volume
  pub path_in : AllCells R path
  pub terminal_in_lem : tap.terminal < volume R
  pub joinable-long : length joinable ≡ volume R
  pub blocked-long : length blocked ≡ volume R

-- number 15 is due and nothing is changed, or the branch is placed
pub data BranchPlaced (R : Room) (k : ℕ) (L : BranchLengths) (tap : Tap) (path branches joinable blocked : List ℕ) (r : Result Grown Stopped) (branches' joinable' blocked' : List ℕ) : Type 0 where
  buffer-full : length branches < used_by L + length (branch_of tap path) → r ≡ Err (record { stop = BufferFull (k + 1); sink = k })
      → (branches' ≡ branches) × (joinable' ≡ joinable) × (blocked' ≡ blocked)
      → BranchPlaced R k L tap path branches joinable blocked r branches' joinable' blocked'
  is-placed : used_by L + length (branch_of tap path) ≤ length branches → r ≡ Ok (record { sink = k; length = length (branch_of tap path) })
      → BranchAdded R (before_sink L k) (used_by L) tap path branches joinable blocked branches' joinable' blocked'
      → BranchPlaced R k L tap path branches joinable blocked r branches' joinable' blocked'
