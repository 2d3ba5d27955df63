-- What the theorems claim of the plain engine over a room of kinds, at any costs: definitions only. Lawful steps and ways are said by positions, apart
-- from both engines, in demands/specs/Lawful.antt.
use Rattle.std.specs.Prelude.{◌≡◌, ◌⊎◌, ◌≢◌, ◌↔◌, List, ◌++◌, ℕ, ◌-◌, ◌≤◌, ◌<◌, ltb, length, get_or, replicate, Ok}
use Rattle.numbers.specs.Refusals.{done_number, no_route_number, limit_passed_number, queue_full_number}
use Rattle.basics.specs.Counts.{times}
use Rattle.room.specs.declared.RouterConfig.{RouterConfig}
use Rattle.room.specs.declared.Nodes.{Nodes}
use Rattle.room.specs.Room.{volume}
use Rattle.room_search.specs.Routing.{Task}
use Rattle.routing.specs.Answers.{Answer}
use Rattle.routing.specs.declared.Lengths.{Lengths}
use Rattle.routing.specs.Answers as first
use Rattle.routing.specs.Answers.{Input, task_of}
use Rattle.demands.specs.Lawful.{LawfulSteps}
use Rattle.demands.specs.Statements.{Priced, Lawful, Cheapest, NoLawfulWay, Unrefused}
use Rattle.plain.specs.Answers.{PlainAnswer}
use Rattle.plain.specs.declared.PlainRoute.{PlainRoute}
use Rattle.plain.specs.Answers.{number_of, detail_of, route_cost}

-- ---- "the number of cells reached, start included"

-- lawful steps lead from the start to v
abbrev pub LedTo : Task → ℕ → Type 0
LedTo T v = (after : List ℕ) × LawfulSteps T T.start after v

-- k counts the cells that lawful steps lead to, the start included: `marks` is not 0 at exactly these
pub record LedCount (T : Task) (k : ℕ) : Type 0 where
  pub marks : List ℕ
  pub long : length marks ≡ volume T.room
  pub marked : (v : ℕ) → 0 < get_or marks v 0 → LedTo T v
  pub all : (v : ℕ) → LedTo T v → 0 < get_or marks v 0
  pub counted : times (ltb 0) marks ≡ k

-- ---- of the plain engine

-- a route that is answered: as many cells as it tells stand at the front of the path buffer, with zeros behind them; they are a lawful way that adds up
-- to its cost, and no lawful way is cheaper
pub record PlainRouteHeld (I : Input) (path : List ℕ) (route : PlainRoute) (path' : List ℕ) : Type 0 where
  pub cells : List ℕ
  pub path-is : path' ≡ cells ++ replicate (length path - length cells) 0
  pub length_is : route.length ≡ length cells
  pub lawful : Lawful (task_of I) cells route.cost.0
  pub cheapest : Cheapest (task_of I) route.cost.0

-- what an answer says, at any costs: 0 a cheapest route, 11 that there is no lawful way, with the count of the cells that lawful steps lead to; where no
-- number from 2 to 10 is due it is 0 or 11, and 11 exactly when no lawful way exists
pub record PlainMeaning (I : Input) (path : List ℕ) (r : PlainAnswer) (path' : List ℕ) : Type 0 where
  pub route-held : (route : PlainRoute) → r ≡ Ok route → PlainRouteHeld I path route path'
  pub no_route_true : number_of r ≡ no_route_number → NoLawfulWay (task_of I)
  pub no_route_counts : number_of r ≡ no_route_number → LedCount (task_of I) (detail_of r)
  pub no_route_exactly : Unrefused I → (number_of r ≡ no_route_number) ↔ NoLawfulWay (task_of I)
  pub settled : Unrefused I → (number_of r ≡ done_number) ⊎ (number_of r ≡ no_route_number)

-- ---- of both engines

-- the same room, costs, kinds and ends handed to the search, with any node limit and buffers of any lengths
abbrev pub search_input : Input → Nodes → Lengths → Input
search_input I limit lengths = record {
  room = I.room;
  config = record { limit = limit; horizontal = I.config.horizontal; stair = I.config.stair; support = I.config.support };
  kinds = I.kinds;
  start = I.start;
  goal = I.goal;
  lengths = lengths;
}

-- how the plain engine's answer r and the search's answer a compare, J being the search's input: where the search has a route so has the plain engine, at
-- no higher cost, and at 10 and 20 at the same; where the search says 11 so does the plain engine; where the plain engine says 11 the search has no
-- route, and one that is not refused says 11, 12 or 13
pub record Compares (J : Input) (r : PlainAnswer) (a : Answer) : Type 0 where
  pub both-route : first.number_of a ≡ done_number → number_of r ≡ done_number
  pub no_dearer : first.number_of a ≡ done_number → route_cost r ≤ first.route_cost a
  pub same-cost : Priced J.config → first.number_of a ≡ done_number → route_cost r ≡ first.route_cost a
  pub both_no_route : first.number_of a ≡ no_route_number → number_of r ≡ no_route_number
  pub no_route_there : number_of r ≡ no_route_number → first.number_of a ≢ done_number
  pub no_route_or_limit : Unrefused J → number_of r ≡ no_route_number → (first.number_of a ≡ no_route_number) ⊎ ((first.number_of a ≡ limit_passed_number) ⊎ (first.number_of a ≡ queue_full_number))
