-- What the theorems say of a drawn route. Definitions alone.
use Rattle.std.specs.Prelude.{◌≡◌, List, ℕ, ◌+◌, ◌-◌, ◌≤◌, ◌<◌, length, get_or, Some}
use Rattle.room.specs.declared.Room.{Room}
use Rattle.room.specs.Room.{beneath}
use Rattle.room.specs.Units.{no_facing, air, redstone_wire, repeater}
use Rattle.repeaters.specs.Repeaters.{path_cell, facing_of}
use Rattle.drawing.specs.Drawing.{passage_facing, repeater_places, repeater_cells, repeater_facings}

-- the cell is none of the path's, and not right beneath one of them
pub record Unnamed (R : Room) (path : List ℕ) (v : ℕ) : Type 0 where
  pub off-path : (k : ℕ) → k < length path → path_cell path k ≡ v → ⊥
  pub not_beneath : (k : ℕ) → k < length path → beneath R (path_cell path k) ≡ Some v → ⊥

-- the path holds no cell right beneath an earlier one
pub record NoneBeneathEarlier (R : Room) (path : List ℕ) : Type 0 where
  pub none : (j k : ℕ) → j < k → k < length path → beneath R (path_cell path j) ≡ Some (path_cell path k) → ⊥

-- what a path cell may hold when the route is drawn and has its repeaters: wire, a repeater, or the block that stood there
pub data WiredOrKept (before after : ℕ) : Type 0 where
  wired : after ≡ redstone_wire → WiredOrKept before after
  repeated : after ≡ repeater → WiredOrKept before after
  kept : (before ≡ air → ⊥) → after ≡ before → WiredOrKept before after

-- the cell is none of the path's inner ones
pub record NotInner (path : List ℕ) (v : ℕ) : Type 0 where
  pub off-inner : (k : ℕ) → 0 < k → k + 1 < length path → path_cell path k ≡ v → ⊥

-- each number is at least so much more than those before it
pub record Spaced (gap : ℕ) (l : List ℕ) : Type 0 where
  pub far : (j k : ℕ) → j < k → k < length l → get_or l j 0 + gap ≤ get_or l k 0

-- a repeater may stand at this place: it is an inner one, and the steps in and out have one flat facing
pub record Straight (R : Room) (path : List ℕ) (place : ℕ) : Type 0 where
  pub inner : 0 < place
  pub not_last : place + 1 < length path
  pub same : facing_of R (path_cell path (place - 1)) (path_cell path place) ≡ passage_facing R path place
  pub flat : passage_facing R path place ≡ no_facing → ⊥

-- an entry of the list: the cell at its place of the path, with the facing of the path's passage there
pub record EntryAt (R : Room) (limit : ℕ) (path : List ℕ) (j place : ℕ) : Type 0 where
  pub place_is : place ≡ get_or (repeater_places R limit path) j 0
  pub cell-is : get_or (repeater_cells R limit path) j 0 ≡ path_cell path place
  pub facing-is : get_or (repeater_facings R limit path) j 0 ≡ passage_facing R path place
  pub straight : Straight R path place
