-- What the theorems claim of one search over a room of kinds: definitions only. The defined search is `searched`; lawful steps and ways are said by
-- positions, apart from it, in the file Lawful beside it.
use Rattle.std.specs.Prelude.{◌≡◌, ◌⊎◌, ◌≢◌, ◌↔◌, true, List, ◌∷◌, ◌++◌, ℕ, ◌+◌, ◌-◌, ◌*◌, ◌≤◌, ◌<◌, length, replicate, Ok, Err}
use Rattle.numbers.specs.Refusals.{done_number, no_route_number, limit_passed_number, queue_full_number}
use Rattle.room.specs.declared.Room.{Room}
use Rattle.room.specs.declared.RouterConfig.{RouterConfig}
use Rattle.room.specs.Room.{Good, volume}
use Rattle.room_search.specs.Routing.{Task, routeable}
use Rattle.demands.specs.Lawful.{LawfulWay, way_cost}
use Rattle.routing.specs.Answers.{Answer}
use Rattle.routing.specs.declared.Unrouted.TheVariants.{Refused, NotRouteable, NoRoute, LimitPassed, QueueFull}
use Rattle.routing.specs.declared.Route.{Route}
use Rattle.routing.specs.Answers.{Input, task_of, judged, number_of}

-- ---- of which tasks

-- the room is good and both ends are cells of it that are fit for wire
pub record Posed (T : Task) : Type 0 where
  pub good : Good T.room
  pub start_in : T.start < volume T.room
  pub goal_in : T.goal < volume T.room
  pub start-free : routeable T T.start ≡ true
  pub goal-free : routeable T T.goal ≡ true

-- "Let a flat step cost at least 10 and a stair at least 20."
pub record Priced (C : RouterConfig) : Type 0 where
  pub flat-least : 10 ≤ C.horizontal.0
  pub stair_least : 20 ≤ C.stair.0

-- "a node limit and queue of that size or more": 12 for each cell of the room
pub record Ample (T : Task) : Type 0 where
  pub limit-wide : 12 * volume T.room ≤ T.config.limit.0
  pub queue-wide : 12 * volume T.room ≤ T.places

-- what is enough already: 5 for each cell but the start, and in the node limit one for the start
pub record Enough (R : Room) (C : RouterConfig) (places : ℕ) : Type 0 where
  pub limit-enough : 5 * (volume R - 1) + 1 ≤ C.limit.0
  pub queue-enough : 5 * (volume R - 1) ≤ places

-- ---- what is said of an answer

-- the path is the start and the cells after it, these are a lawful way, and its steps add up to the cost
pub record Lawful (T : Task) (path : List ℕ) (cost : ℕ) : Type 0 where
  pub after : List ℕ
  pub begins : path ≡ T.start ∷ after
  pub lawful : LawfulWay T after
  pub adds-up : way_cost T after ≡ cost

-- no lawful way is cheaper
abbrev pub Cheapest : Task → ℕ → Type 0
Cheapest T cost = (after : List ℕ) → LawfulWay T after → cost ≤ way_cost T after

abbrev pub NoLawfulWay : Task → Type 0
NoLawfulWay T = (after : List ℕ) → LawfulWay T after → ⊥

-- how many cells were expanded: a route's count, and the detail of 11, 12 and 13; with any other number nothing was searched
abbrev pub expanded_for : Answer → ℕ
expanded_for (Ok r) = r.expanded.0
expanded_for (Err (Refused why)) = 0
expanded_for (Err (NotRouteable cell)) = 0
expanded_for (Err (NoRoute x)) = x.0
expanded_for (Err (LimitPassed x)) = x.0
expanded_for (Err (QueueFull x)) = x.0

-- ---- of the public search

-- no number from 2 to 10 is due: "good input, both ends fit for wire"
pub record Unrefused (I : Input) : Type 0 where
  pub fit : judged I ≡ Ok tt
  pub start-free : routeable (task_of I) I.start ≡ true
  pub goal-free : routeable (task_of I) I.goal ≡ true

-- a route that is answered: as many cells as it tells stand at the front of the path buffer, with zeros behind them; they are a lawful way that adds up
-- to its cost, and at those costs a cheapest one
pub record RouteHeld (I : Input) (path : List ℕ) (route : Route) (path' : List ℕ) : Type 0 where
  pub cells : List ℕ
  pub path-is : path' ≡ cells ++ replicate (length path - length cells) 0
  pub length_is : route.length ≡ length cells
  pub lawful : Lawful (task_of I) cells route.cost.0
  pub cheapest : Priced I.config → Cheapest (task_of I) route.cost.0

-- what an answer says: 0 a route, 11 that there is none, of any input; where nothing is refused, at those costs, with a limit and a queue that are enough,
-- it is 0 or 11, and 11 exactly when no lawful way exists; neither limit is reported then; "The search expands at most 12 cells per cell of the room",
-- whatever its number; and at any costs 11 places for each node of the limit, and one more, never give 13
pub record Meaning (I : Input) (path : List ℕ) (r : Answer) (path' : List ℕ) : Type 0 where
  pub route-held : (route : Route) → r ≡ Ok route → RouteHeld I path route path'
  pub no_route_true : number_of r ≡ no_route_number → NoLawfulWay (task_of I)
  pub no_route_exactly : Unrefused I → Priced I.config → Enough I.room I.config (task_of I).places → (number_of r ≡ no_route_number) ↔ NoLawfulWay (task_of I)
  pub settled : Unrefused I → Priced I.config → Enough I.room I.config (task_of I).places → (number_of r ≡ done_number) ⊎ (number_of r ≡ no_route_number)
  pub no_limit : Priced I.config → Enough I.room I.config (task_of I).places → (number_of r ≢ limit_passed_number) × (number_of r ≢ queue_full_number)
  pub expands-few : Priced I.config → expanded_for r ≤ 12 * volume I.room
  pub never-full : 11 * I.config.limit.0 < (task_of I).places → number_of r ≢ queue_full_number
