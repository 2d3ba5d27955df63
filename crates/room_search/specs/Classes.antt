-- What the contracts of the functions that fill the class bytes cite.
use Rattle.std.specs.Prelude.{◌≡◌, true, false, List, ℕ, ◌<◌, length, get_or, set}
use Rattle.room.specs.declared.Room.{Room}
use Rattle.room.specs.Room.{volume}
use Rattle.room_search.specs.Routing.{class_at}

-- each cell's class, where no cell is an end
pub record Plain (R : Room) (kinds classes : List ℕ) : Type 0 where
  pub long : length classes ≡ volume R
  pub each : (v : ℕ) → v < volume R → get_or classes v 0 ≡ class_at false R kinds v

-- a cell is made an end
abbrev pub with_end : Room → List ℕ → ℕ → List ℕ → List ℕ
with_end R kinds v classes = set classes v (class_at true R kinds v)
