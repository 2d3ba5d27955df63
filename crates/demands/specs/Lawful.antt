-- "A lawful way is a list of cells from start to goal whose steps keep these rules, both ends being routeable." Said of rooms, kinds and ends by
-- positions, apart from the search, of which it shares only what is routeable and what bears.
use Rattle.std.specs.Prelude.{◌≡◌, true, List, [], ◌∷◌, ℕ, ◌+◌, ◌≤◌, ◌<◌, eqb}
use Rattle.basics.specs.Tests.{either}
use Rattle.room.specs.Room.{volume, pos_of, beneath, apart}
use Rattle.room.specs.Units.{air}
use Rattle.room_search.specs.Routing.{Task, kind_at, routeable, bearing}

-- the kind right beneath a cell
abbrev pub support_of : Task → ℕ → ℕ
support_of T v = kind_at T.kinds (beneath T.room v)

-- one step from u to v: a neighbour aside, at most one higher or lower, that may be entered and whose support bears
pub record LawfulStep (T : Task) (u v : ℕ) : Type 0 where
  pub to_in : v < volume T.room
  pub aside : apart (pos_of T.room u).x (pos_of T.room v).x + apart (pos_of T.room u).z (pos_of T.room v).z ≡ 1
  pub rise : apart (pos_of T.room u).y (pos_of T.room v).y ≤ 1
  pub enters : routeable T v ≡ true
  pub stands : 0 < bearing (support_of T v)

-- flat or stair, and a new support where air is beneath
unfoldable pub step_cost : Task → ℕ → ℕ → ℕ
step_cost T u v =
    either (eqb (pos_of T.room u).y (pos_of T.room v).y) T.config.horizontal.0 T.config.stair.0
    + either (eqb (support_of T v) air) T.config.support.0 0

-- the cells after u lead from u to t by lawful steps
abbrev pub LawfulSteps : Task → ℕ → List ℕ → ℕ → Type 0
LawfulSteps T u [] t = u ≡ t
LawfulSteps T u (v ∷ l) t = LawfulStep T u v × LawfulSteps T v l t

-- what these steps cost in all
abbrev pub cost_from : Task → ℕ → List ℕ → ℕ
cost_from T u [] = 0
cost_from T u (v ∷ l) = step_cost T u v + cost_from T v l

-- a lawful way: the start, a cell of the room, and the cells after it
pub record LawfulWay (T : Task) (after : List ℕ) : Type 0 where
  pub start_in : T.start < volume T.room
  pub start-free : routeable T T.start ≡ true
  pub goal-free : routeable T T.goal ≡ true
  pub leads : LawfulSteps T T.start after T.goal

-- what a way costs
abbrev pub way_cost : Task → List ℕ → ℕ
way_cost T after = cost_from T T.start after
