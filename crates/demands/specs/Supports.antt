-- What is claimed of a route's totals, at any costs: definitions only. The totals of a path are defined beside the promise of the search, in
-- routing/specs/Totals; here they are said of ways, beside what a way costs (`way_cost`).
use Rattle.std.specs.Prelude.{◌≡◌, List, ◌∷◌, ◌++◌, ℕ, ◌+◌, ◌-◌, ◌*◌, length, replicate, Ok}
use Rattle.room_search.specs.Routing.{Task}
use Rattle.routing.specs.declared.Route.{Route}
use Rattle.routing.specs.Answers.{Answer}
use Rattle.routing.specs.Totals.{steps_from, laid_along}
use Rattle.routing.specs.Answers.{Input, task_of}
use Rattle.demands.specs.Lawful.{LawfulWay}

-- what the steps of a way come to without supports, and how many of its cells after the start want a new support
abbrev pub way_steps : Task → List ℕ → ℕ
way_steps T after = steps_from T.room T.config T.start after

abbrev pub way_laid : Task → List ℕ → ℕ
way_laid T after = laid_along T.room T.kinds after

-- a route that is answered carries the totals of the path as answered: the start and the cells after it stand at the front of the path buffer, with zeros
-- behind them, and are a lawful way; `steps` and `laid` are that way's, `supports` is `laid` times the support cost, and the two amounts add up to the cost
pub record TotalsHeld (I : Input) (path : List ℕ) (route : Route) (path' : List ℕ) : Type 0 where
  pub after : List ℕ
  pub path-is : path' ≡ (I.start ∷ after) ++ replicate (length path - length (I.start ∷ after)) 0
  pub length_is : route.length ≡ length (I.start ∷ after)
  pub lawful : LawfulWay (task_of I) after
  pub steps-are : route.steps.0 ≡ way_steps (task_of I) after
  pub laid-are : route.laid ≡ way_laid (task_of I) after
  pub supports-are : route.supports.0 ≡ route.laid * I.config.support.0
  pub adds-up : route.steps.0 + route.supports.0 ≡ route.cost.0

-- so does each route of an answer
abbrev pub TotalsTold : Input → List ℕ → Answer → List ℕ → Type 0
TotalsTold I path r path' = (route : Route) → r ≡ Ok route → TotalsHeld I path route path'
