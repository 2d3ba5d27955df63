-- The room as a search sees it: "For a search, each blocked Air cell other than its start and goal counts as Solid, as a support too." In strict mode
-- "blocked air may be neither entered nor used as support; the search's own start and goal stay exempt from blocking". Definitions alone; their laws are
-- in the files named Laws.
use Rattle.std.specs.Prelude.{◌≡◌, Bool, not, ◌&&◌, List, ℕ, suc, ◌<◌, eqb, length, get_or, set, Option, Some, None}
use Rattle.basics.specs.Tests.{either}
use Rattle.room.specs.declared.Room.{Room}
use Rattle.room.specs.declared.RouterConfig.{RouterConfig}
use Rattle.room.specs.Room.{Good, volume, above}
use Rattle.room.specs.Units.{air, solid, max_kind}
use Rattle.ground.specs.declared.Mode.{Mode}
use Rattle.ground.specs.declared.Mode.TheVariants.{Published, Strict}
use Rattle.routing_resources.specs.Marks.{is_marked, with_byte}
use Rattle.room_search.specs.Routing.{Task, an_end, class_at}

-- a blocked Air cell other than start and goal
unfoldable pub blocked_air : List ℕ → List ℕ → ℕ → ℕ → ℕ → Bool
blocked_air kinds blocked start goal v = eqb (get_or kinds v air) air && (is_marked blocked v && not (an_end start goal v))

-- the kind that such a cell is seen as. Strict mode has the first code that is no kind: neither routeable nor bearing
abbrev pub wall_of : Mode → ℕ
wall_of Published = solid
wall_of Strict = suc max_kind

-- the kind that is seen at a cell. A blocked cell that isn't Air keeps its kind
unfoldable pub seen_kind : Mode → List ℕ → List ℕ → ℕ → ℕ → ℕ → ℕ
seen_kind mode kinds blocked start goal v = either (blocked_air kinds blocked start goal v) (wall_of mode) (get_or kinds v air)

-- one for each cell
unfoldable pub seen_kinds : Mode → List ℕ → List ℕ → ℕ → ℕ → List ℕ
seen_kinds mode kinds blocked start goal = with_byte (wall_of mode) (blocked_air kinds blocked start goal) kinds

-- the task of a search over the room as it is seen
abbrev pub seen_task : Mode → Room → RouterConfig → List ℕ → List ℕ → ℕ → ℕ → ℕ → Task
seen_task mode R C kinds blocked s g n = record {
  room = R;
  config = C;
  kinds = seen_kinds mode kinds blocked s g;
  start = s;
  goal = g;
  places = n;
}

-- what it takes to enter a cell in that task
unfoldable pub class_seen : Mode → Room → List ℕ → List ℕ → ℕ → ℕ → ℕ → ℕ
class_seen mode R kinds blocked start goal v = class_at (an_end start goal v) R (seen_kinds mode kinds blocked start goal) v

-- the class bytes say it of each cell
pub record Says (mode : Mode) (R : Room) (kinds blocked : List ℕ) (start goal : ℕ) (classes : List ℕ) : Type 0 where
  pub long : length classes ≡ volume R
  pub each : (v : ℕ) → v < volume R → get_or classes v 0 ≡ class_seen mode R kinds blocked start goal v

-- the room, the kinds and the blocked marks fit together
pub record WorldFits (R : Room) (kinds blocked : List ℕ) : Type 0 where
  pub good : Good R
  pub kinds-long : length kinds ≡ volume R
  pub blocked-long : length blocked ≡ volume R

-- the class bytes with that of one cell written anew, and with that of a cell and of the cell that it bears
abbrev pub renewed : Mode → Room → List ℕ → List ℕ → ℕ → ℕ → ℕ → List ℕ → List ℕ
renewed mode R kinds blocked start goal v classes = set classes v (class_seen mode R kinds blocked start goal v)

abbrev pub renewed_at : Mode → Room → List ℕ → List ℕ → ℕ → ℕ → Option ℕ → List ℕ → List ℕ
renewed_at mode R kinds blocked start goal (Some v) classes = renewed mode R kinds blocked start goal v classes
renewed_at mode R kinds blocked start goal None classes = classes

unfoldable pub refreshed : Mode → Room → List ℕ → List ℕ → ℕ → ℕ → ℕ → List ℕ → List ℕ
refreshed mode R kinds blocked start goal cell classes =
    renewed_at mode R kinds blocked start goal (above R cell) (renewed mode R kinds blocked start goal cell classes)
