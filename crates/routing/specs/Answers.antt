-- What `astar_route` answers, and what every lent buffer then holds, as docs/RULES.md, Numbers that come back, has it for a search. Each input determines all of
-- it.
use Rattle.std.specs.Prelude.{◌≡◌, Bool, ◌&&◌, List, [], ℕ, leb, ltb, eqb, length, Result, Ok, Err, ⊤}
use Rattle.numbers.specs.Refusals.{done_number, sides_number, config_number, position_number, code_number, buffer_number, not_routeable_number, no_route_number, limit_passed_number, queue_full_number}
use Rattle.basics.specs.Tests.{either}
use Rattle.basics.specs.Lists.{every}
use Rattle.lent.specs.Lent.{output_after, work_after}
use Rattle.room.specs.declared.Room.{Room}
use Rattle.room.specs.declared.RouterConfig.{RouterConfig}
use Rattle.room.specs.Room.{sides_good, volume}
use Rattle.room.specs.Units.{config_good, kind_known}
use Rattle.best_first.specs.Search as search
use Rattle.routing.specs.declared.Unrouted.{Unrouted}
use Rattle.routing.specs.declared.Unrouted.TheVariants.{Refused, NotRouteable, NoRoute, LimitPassed, QueueFull}
use Rattle.routing.specs.declared.Refusal.{Refusal}
use Rattle.routing.specs.declared.Refusal.TheVariants.{Sides, Config, Buffer, Code, Position}
use Rattle.routing.specs.declared.Lengths.{Lengths}
use Rattle.routing.specs.declared.Route.{Route}
use Rattle.routing.specs.declared.Totals.{Totals}
use Rattle.room_search.specs.Routing.{Task, places_in, routeable, searched}
use Rattle.routing.specs.Totals.{totals_of}

-- what is handed over; of the lent buffers only their lengths count
pub record Input : Type 0 where
  pub room : Room
  pub config : RouterConfig
  pub kinds : List ℕ
  pub start : ℕ
  pub goal : ℕ
  pub lengths : Lengths

-- a search between two ends, with so many places in its queue
abbrev pub task_in : Room → RouterConfig → List ℕ → ℕ → ℕ → ℕ → Task
task_in R C kinds start goal places = record { room = R; config = C; kinds = kinds; start = start; goal = goal; places = places }

-- the task that is searched
abbrev pub task_of : Input → Task
task_of I = task_in I.room I.config I.kinds I.start I.goal (places_in I.lengths.queue)

-- number 6: "kinds not exactly V, an output or work buffer under V (branch buffer and queue exempt), queue of length 0"
unfoldable pub buffers_good : Room → List ℕ → Lengths → Bool
buffers_good R kinds L =
    eqb (length kinds) (volume R)
    && (leb (volume R) L.path && (leb (volume R) L.known && (leb (volume R) L.previous && (leb (volume R) L.classes && leb 1 (places_in L.queue)))))

-- number 4: "a search's ends are cell numbers, outside when V or more"
unfoldable pub ends_inside : Room → ℕ → ℕ → Bool
ends_inside R start goal = ltb start (volume R) && ltb goal (volume R)

-- whether an input can be searched, or why it is refused
abbrev pub Judgement : Type 0
Judgement = Result ⊤ Refusal

-- "A search checks 2, 3, 6, 5, 4, 10 and gives 11 to 13."
unfoldable pub judged : Input → Judgement
judged I =
    either (sides_good I.room)
    (either (config_good I.room I.config)
    (either (buffers_good I.room I.kinds I.lengths)
    (either (every kind_known I.kinds) (either (ends_inside I.room I.start I.goal) (Ok tt) (Err Position)) (Err Code)) (Err Buffer)) (Err Config))
    (Err Sides)

-- a route, or why there is none
abbrev pub Answer : Type 0
Answer = Result Route Unrouted

-- a route by its numbers and its path's totals
abbrev pub route_in : Totals → ℕ → ℕ → ℕ → Route
route_in t cells cost x = record {
  length = cells;
  cost = record { 0 = cost };
  expanded = record { 0 = x };
  steps = t.steps;
  supports = t.supports;
  laid = t.laid;
}

-- the defined search's answer, as the code gives it, with the totals of its path
abbrev pub answered : Task → search.Answer → Answer
answered T (search.route path cost x) = Ok (route_in (totals_of T.room T.config T.kinds path) (length path) cost x)
answered T (search.no_route x) = Err (NoRoute (record { 0 = x }))
answered T (search.limit-passed x) = Err (LimitPassed (record { 0 = x }))
answered T (search.queue-full x) = Err (QueueFull (record { 0 = x }))

-- number 10: "start, else goal, not routeable"
unfoldable pub fit_answer : Input → Answer
fit_answer I =
    either (routeable (task_of I) I.start)
    (either (routeable (task_of I) I.goal) (answered (task_of I) (searched (task_of I))) (Err (NotRouteable I.goal)))
    (Err (NotRouteable I.start))

-- the answer to an input, by its judgement
abbrev pub answer_for : Judgement → Input → Answer
answer_for (Ok _) I = fit_answer I
answer_for (Err why) I = Err (Refused why)

-- the answer that each input determines
unfoldable pub answer_of : Input → Answer
answer_of I = answer_for (judged I) I

-- the number of each answer, 0 for a route, and its detail
abbrev pub refusal_number : Refusal → ℕ
refusal_number Sides = sides_number
refusal_number Config = config_number
refusal_number Position = position_number
refusal_number Code = code_number
refusal_number Buffer = buffer_number

abbrev pub number_of : Answer → ℕ
number_of (Ok r) = done_number
number_of (Err (Refused why)) = refusal_number why
number_of (Err (NotRouteable cell)) = not_routeable_number
number_of (Err (NoRoute x)) = no_route_number
number_of (Err (LimitPassed x)) = limit_passed_number
number_of (Err (QueueFull x)) = queue_full_number

abbrev pub detail_of : Answer → ℕ
detail_of (Ok r) = 0
detail_of (Err (Refused why)) = 0
detail_of (Err (NotRouteable cell)) = cell
detail_of (Err (NoRoute x)) = x.0
detail_of (Err (LimitPassed x)) = x.0
detail_of (Err (QueueFull x)) = x.0

-- a route's cost, and its expanded count
abbrev pub route_cost : Answer → ℕ
route_cost (Ok r) = r.cost.0
route_cost (Err e) = 0

abbrev pub route_expanded : Answer → ℕ
route_expanded (Ok r) = r.expanded.0
route_expanded (Err e) = 0

-- ---- the lent buffers

-- the route's cells, none where there is no route
abbrev pub cells_of : search.Answer → List ℕ
cells_of (search.route path cost x) = path
cells_of (search.no_route x) = []
cells_of (search.limit-passed x) = []
cells_of (search.queue-full x) = []

-- the cells that an answer writes
abbrev pub cells_for : Answer → Input → List ℕ
cells_for (Ok r) I = cells_of (searched (task_of I))
cells_for (Err e) I = []

-- the promise of `astar_route`
pub record Promise (I : Input) (path known previous classes queue : List ℕ) (r : Answer) (path' known' previous' classes' queue' : List ℕ) : Type 0 where
  pub answer : r ≡ answer_of I
  pub path-is : path' ≡ output_after (number_of (answer_of I)) (cells_for (answer_of I) I) path
  pub known_is : known' ≡ work_after (number_of (answer_of I)) known
  pub previous-is : previous' ≡ work_after (number_of (answer_of I)) previous
  pub classes-is : classes' ≡ work_after (number_of (answer_of I)) classes
  pub queue-is : queue' ≡ work_after (number_of (answer_of I)) queue

-- the lent buffers' lengths
abbrev pub lengths_of : List ℕ → List ℕ → List ℕ → List ℕ → List ℕ → Lengths
lengths_of path known previous classes queue = record {
  path = length path;
  known = length known;
  previous = length previous;
  classes = length classes;
  queue = length queue;
}

-- what is handed over, as one value
abbrev pub input : Room → RouterConfig → List ℕ → ℕ → ℕ → Lengths → Input
input R C kinds start goal L = record { room = R; config = C; kinds = kinds; start = start; goal = goal; lengths = L }
