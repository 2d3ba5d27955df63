-- What one sink's route is, apart from the attempts that find it: the searches before it for its goal, the search that found it, and that no goal has a
-- cheaper one. Definitions alone; that `route_to_tree` finds such a route is shown in RouteLaws.
use Rattle.std.specs.Prelude.{◌≡◌, true, false, List, ℕ, suc, ◌≤◌, ◌<◌, eqb, Some, None}
use Rattle.room.specs.Room.{volume}
use Rattle.routing_resources.specs.Marks.{is_marked, marked_by}
use Rattle.geometry.specs.Geometry.{conflict_of}
use Rattle.goals.specs.Goals.{Site, found, searched_for, site_task, ends_goal, max_attempts, tried_goal}

-- so many searches found a route with a conflict that does not end the goal and was then blocked, one after another
pub data Conflicts (S : Site) (start goal : ℕ) : ℕ → List ℕ → List ℕ → Type 0 where
  as_blocked : {blocked : List ℕ} → Conflicts S start goal 0 blocked blocked
  one_more : {n : ℕ} {blocked later path : List ℕ} {cost v : ℕ} → searched_for (site_task S blocked start goal) ≡ found path cost
      → conflict_of S.room S.kinds S.joinable path ≡ Some v
      → ends_goal blocked start goal v ≡ false
      → Conflicts S start goal n (marked_by (eqb v) blocked) later
      → Conflicts S start goal (suc n) blocked later

-- one goal's route, by so many attempts: fewer conflicts were blocked, and the search that then sees the room found it, without conflict
pub record Reaches (S : Site) (attempts : ℕ) (blocked : List ℕ) (start goal : ℕ) (path : List ℕ) (cost : ℕ) : Type 0 where
  pub conflicts : ℕ
  pub few : conflicts < attempts
  pub blocked-last : List ℕ
  pub after : Conflicts S start goal conflicts blocked blocked-last
  pub found-so : searched_for (site_task S blocked-last start goal) ≡ found path cost
  pub free : conflict_of S.room S.kinds S.joinable path ≡ None

-- one sink's route: its goal is a joinable cell, no goal has a cheaper route, and none before it in number order one as cheap
pub record RouteJoins (S : Site) (blocked : List ℕ) (start : ℕ) (path : List ℕ) (cost : ℕ) : Type 0 where
  pub goal : ℕ
  pub goal_in : goal < volume S.room
  pub joinable : is_marked S.joinable goal ≡ true
  pub reaches : Reaches S max_attempts blocked start goal path cost
  pub cheapest-goal : (other : ℕ) → other < volume S.room → (path' : List ℕ) (cost' : ℕ) → tried_goal S start blocked other ≡ found path' cost' → cost ≤ cost'
  pub first_such : (other : ℕ) → other < goal → (path' : List ℕ) (cost' : ℕ) → tried_goal S start blocked other ≡ found path' cost' → cost < cost'
