-- What `plain_route` answers, and what every lent buffer then holds, as docs/MORE-RULES.md, The plain engine, has it. Each input determines all of it
-- but which of the cheapest paths is answered.
use Rattle.std.specs.Prelude.{◌≡◌, List, [], ℕ, length, Ok, Err, Result}
use Rattle.numbers.specs.Refusals.{done_number, not_routeable_number, no_route_number}
use Rattle.lent.specs.Lent.{output_after, work_after}
use Rattle.room.specs.declared.Room.{Room}
use Rattle.room.specs.declared.Cost.{Cost}
use Rattle.room.specs.declared.RouterConfig.{RouterConfig}
use Rattle.best_first.specs.Search.{Graph}
use Rattle.best_first.specs.Ways.{NoWay}
use Rattle.best_first.specs.Statements.{Lawful, Cheapest}
use Rattle.sweeps.specs.Sweeps.{ReachedCount}
use Rattle.room_search.specs.Routing.{graph}
use Rattle.routing.specs.Answers.{Input, input, task_of, judged, refusal_number, Judgement}
use Rattle.routing.specs.Entry.{ends_fit, EndsFit}
use Rattle.plain.specs.declared.PlainRoute.{PlainRoute}
use Rattle.plain.specs.declared.PlainUnrouted.{PlainUnrouted}
use Rattle.plain.specs.declared.PlainUnrouted.TheVariants.{Refused, NotRouteable, NoRoute}

-- three costs, and a node limit that 3 is never due for
abbrev pub costs_alone : Cost → Cost → Cost → RouterConfig
costs_alone horizontal stair support = record { limit = record { 0 = 0 }; horizontal = horizontal; stair = stair; support = support }

-- a queue of one place, that 6 is never due for: no sweep uses it
abbrev pub unused_queue : ℕ
unused_queue = 2

-- what is handed over, judged as a search's input is. The queue and the node limit have no part in it
abbrev pub input_of : Room → Cost → Cost → Cost → List ℕ → ℕ → ℕ → List ℕ → List ℕ → List ℕ → List ℕ → Input
input_of R horizontal stair support kinds start goal path known previous classes =
    input R (costs_alone horizontal stair support) kinds start goal
    (record { path = length path; known = length known; previous = length previous; classes = length classes; queue = unused_queue })

-- a route, or why there is none
abbrev pub PlainAnswer : Type 0
PlainAnswer = Result PlainRoute PlainUnrouted

-- what the sweeps may answer, at any costs. A route: a way to the goal that adds up to its cost, and none is cheaper. "No route": no way leads to the
-- goal, and as many cells as are told have a way to them
abbrev pub Found : Graph → PlainAnswer → List ℕ → Type 0
Found G (Ok r) cells = (length cells ≡ r.length) × Lawful G cells r.cost.0 × Cheapest G r.cost.0
Found G (Err (NoRoute n)) cells = (cells ≡ []) × NoWay G × ReachedCount G n.0
Found G (Err (Refused why)) cells = ⊥
Found G (Err (NotRouteable cell)) cells = ⊥

-- "Refusals: 2, 3, 6, 5, 4, 10, 11"
abbrev pub Answered : Judgement → EndsFit → Graph → PlainAnswer → List ℕ → Type 0
Answered (Err why) ends G r cells = (r ≡ Err (Refused why)) × (cells ≡ [])
Answered (Ok _) (Err cell) G r cells = (r ≡ Err (NotRouteable cell)) × (cells ≡ [])
Answered (Ok _) (Ok _) G r cells = Found G r cells

-- the number of each answer, 0 for a route, its detail, and a route's cost
abbrev pub number_of : PlainAnswer → ℕ
number_of (Ok r) = done_number
number_of (Err (Refused why)) = refusal_number why
number_of (Err (NotRouteable cell)) = not_routeable_number
number_of (Err (NoRoute n)) = no_route_number

abbrev pub detail_of : PlainAnswer → ℕ
detail_of (Ok r) = 0
detail_of (Err (Refused why)) = 0
detail_of (Err (NotRouteable cell)) = cell
detail_of (Err (NoRoute n)) = n.0

abbrev pub route_cost : PlainAnswer → ℕ
route_cost (Ok r) = r.cost.0
route_cost (Err e) = 0

-- the promise of `plain_route`. `cells` are the path of its route, none where there is no route: the one thing that the input leaves open is which
-- cheapest path that is
pub record Promise (I : Input) (path known previous classes : List ℕ) (r : PlainAnswer) (path' known' previous' classes' : List ℕ) : Type 0 where
  pub cells : List ℕ
  pub answer : Answered (judged I) (ends_fit I.kinds I.start I.goal) (graph (task_of I)) r cells
  pub path-is : path' ≡ output_after (number_of r) cells path
  pub known_is : known' ≡ work_after (number_of r) known
  pub previous-is : previous' ≡ work_after (number_of r) previous
  pub classes-is : classes' ≡ work_after (number_of r) classes
