-- What holds of the field of a search, and of a cell with its position.
use Rattle.std.specs.Prelude.{◌≡◌, List, ℕ, ◌<◌, length}
use Rattle.room.specs.declared.Room.{Room}
use Rattle.room.specs.declared.RouterConfig.{RouterConfig}
use Rattle.room.specs.Room.{Good, volume, pos_of}
use Rattle.room.specs.Units.{GoodConfig}
use Rattle.room_search.specs.declared.Spot.{Spot}

-- the position of a spot is that of its cell
pub record Placed (R : Room) (s : Spot) : Type 0 where
  pub inside : s.cell < volume R
  pub is : s.at ≡ pos_of R s.cell

-- the room and the config are good, each cell has a class, and the goal is a cell of the room
pub record FieldFits (R : Room) (C : RouterConfig) (classes : List ℕ) (goal : Spot) : Type 0 where
  pub good : Good R
  pub config-good : GoodConfig R C
  pub classes-long : length classes ≡ volume R
  pub goal-placed : Placed R goal
