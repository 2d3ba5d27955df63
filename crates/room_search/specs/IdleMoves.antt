-- Moves of which nothing comes, and what the functions say that look for the others.
use Rattle.std.specs.Prelude.{◌≡◌, ◌≢◌, Bool, true, List, ℕ, ◌+◌, ◌≤◌, ◌<◌, length, get_or}
use Rattle.room.specs.declared.Move.{Move}
use Rattle.room.specs.Room.{volume, by}
use Rattle.room_search.specs.declared.Reached.{Reached}
use Rattle.room_search.specs.declared.Field.{Field}
use Rattle.room_search.specs.Fields.{Placed}
use Rattle.room_search.specs.TriedMoves.{max_known, StepTo, NoStep}

-- nothing comes of a move out of the room, into a cell that can't be entered, or into one that is known no dearer
pub data Idle (F : Field) (known : List ℕ) (from : Reached) (m : Move) : Type 0 where
  no_step : NoStep F from m → Idle F known from m
  kept : (to : Reached) → StepTo F from m to → get_or known to.spot.cell 0 ≢ 0 → get_or known to.spot.cell 0 ≤ to.cost.0 + 1 → Idle F known from m

-- nor of the three moves that go aside as m does
abbrev pub IdleColumn : Field → List ℕ → Reached → Move → Type 0
IdleColumn F known from m = (y : ℕ) → y < 3 → Idle F known from (by m.x y m.z)

-- what these functions ask of their parameters
pub record Scannable (F : Field) (known : List ℕ) (from : Reached) : Type 0 where
  pub known-long : length known ≡ volume F.room
  pub from-placed : Placed F.room from.spot
  pub cost-most : from.cost.0 ≤ max_known

-- a move is passed over only where nothing comes of it
pub record IdleTold (F : Field) (known : List ℕ) (from : Reached) (m : Move) (r : Bool) : Type 0 where
  pub told : r ≡ true → Idle F known from m

pub record ColumnTold (F : Field) (known : List ℕ) (from : Reached) (m : Move) (r : Bool) : Type 0 where
  pub told : r ≡ true → IdleColumn F known from m
