-- What `dustroute_search` returns, and what every lent buffer then holds: the answer of `astar_route` as numbers. Each input determines all of it.
use Rattle.std.specs.Prelude.{◌≡◌, List, [], ◌∷◌, ℕ, leb, length, take, Err}
use Rattle.basics.specs.Tests.{either}
use Rattle.lent.specs.Lent.{output_after, work_after}
use Rattle.room.specs.declared.Room.{Room}
use Rattle.room.specs.declared.RouterConfig.{RouterConfig}
use Rattle.room.specs.Room.{sides_good}
use Rattle.room.specs.Units.{config_good}
use Rattle.routing.specs.Answers.{Answer}
use Rattle.routing.specs.declared.Unrouted.TheVariants.{Refused}
use Rattle.routing.specs.declared.Route.{Route}
use Rattle.routing.specs.declared.Refusal.{Refusal}
use Rattle.routing.specs.declared.Refusal.TheVariants.{Sides, Config, Buffer}
use Rattle.reply.specs.Replies.{route_of}
use Rattle.routing.specs.Answers.{Input, answer_of, number_of, detail_of, cells_for}

abbrev pub room_of : ℕ → ℕ → ℕ → Room
room_of wide high deep = record { wide = wide; high = high; deep = deep }

abbrev pub config_of : ℕ → ℕ → ℕ → ℕ → RouterConfig
config_of limit horizontal stair support = record {
  limit = record { 0 = limit };
  horizontal = record { 0 = horizontal };
  stair = record { 0 = stair };
  support = record { 0 = support };
}

-- a buffer of fewer than four values is number 6, at 6's place: 2 and 3 are judged before it
abbrev pub short_refusal : Room → RouterConfig → Refusal
short_refusal R C = either (sides_good R) (either (config_good R C) Buffer Config) Sides

unfoldable pub exported : Input → List ℕ → Answer
exported I values = either (leb 4 (length values)) (answer_of I) (Err (Refused (short_refusal I.room I.config)))

-- the seven values: the detail, then a route's length, cost and expanded count, what its steps and its new supports come to, and how many supports are
-- new; zero where there is no route
abbrev pub values_with : ℕ → Route → List ℕ
values_with detail r = detail ∷ r.length ∷ r.cost.0 ∷ r.expanded.0 ∷ r.steps.0 ∷ r.supports.0 ∷ r.laid ∷ []

abbrev pub values_of : Answer → List ℕ
values_of a = values_with (detail_of a) (route_of a)

-- the values afterwards: as many of the seven as are lent, and zeros behind them
abbrev pub values_told : Answer → List ℕ → List ℕ
values_told a values = output_after (number_of a) (take (length values) (values_of a)) values

-- The promise of `dustroute_search`. "Numbers 1 to 6 touch nothing", the values included.
pub record Exported (I : Input) (path known previous classes queue values : List ℕ) (r : ℕ) (path' known' previous' classes' queue' values' : List ℕ) : Type 0 where
  pub number : r ≡ number_of (exported I values)
  pub path-is : path' ≡ output_after (number_of (exported I values)) (cells_for (exported I values) I) path
  pub known_is : known' ≡ work_after (number_of (exported I values)) known
  pub previous-is : previous' ≡ work_after (number_of (exported I values)) previous
  pub classes-is : classes' ≡ work_after (number_of (exported I values)) classes
  pub queue-is : queue' ≡ work_after (number_of (exported I values)) queue
  pub values-is : values' ≡ values_told (exported I values) values
