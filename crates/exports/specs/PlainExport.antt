-- What `dustroute_plain` returns, and what every lent buffer then holds: the answer of `plain_route` as numbers.
use Rattle.std.specs.Prelude.{◌≡◌, List, [], ◌∷◌, ℕ, ◌≤◌, ◌<◌, length, Ok, Err}
use Rattle.lent.specs.Lent.{output_after}
use Rattle.room.specs.declared.Cost.{Cost}
use Rattle.routing.specs.Answers.{Input, refusal_number}
use Rattle.plain.specs.Answers.{PlainAnswer}
use Rattle.plain.specs.declared.PlainUnrouted.TheVariants.{Refused, NotRouteable, NoRoute}
use Rattle.plain.specs.declared.PlainRoute.{PlainRoute}
use Rattle.plain.specs.Answers.{number_of, detail_of, Promise}
use Rattle.exports.specs.Export.{short_refusal}

abbrev pub cost_of : ℕ → Cost
cost_of tenths = record { 0 = tenths }

-- the route of an answer, all zero where there is none
abbrev pub no_plain_route : PlainRoute
no_plain_route = record { length = 0; cost = record { 0 = 0 } }

abbrev pub plain_route_of : PlainAnswer → PlainRoute
plain_route_of (Ok r) = r
plain_route_of (Err e) = no_plain_route

-- the three values: the detail, then a route's length and cost, zero where there is no route
abbrev pub plain_value_count : ℕ
plain_value_count = 3

abbrev pub plain_values : PlainAnswer → List ℕ
plain_values a = detail_of a ∷ (plain_route_of a).length ∷ (plain_route_of a).cost.0 ∷ []

-- The promise of `dustroute_plain`. Fewer values than three are number 6, at 6's place: 2 and 3 are judged before it, and nothing is touched. Else there
-- is an answer that keeps the promise of `plain_route`, whose number comes back; "Numbers 1 to 6 touch nothing", the values included, and any other
-- number writes the three values and zeros behind them
pub data PlainExported (I : Input) (path known previous classes values : List ℕ) (r : ℕ) (path' known' previous' classes' values' : List ℕ) : Type 0 where
  plain-short : length values < plain_value_count → r ≡ refusal_number (short_refusal I.room I.config) → path' ≡ path → known' ≡ known → previous' ≡ previous
      → classes' ≡ classes → values' ≡ values → PlainExported I path known previous classes values r path' known' previous' classes' values'
  plain-told : plain_value_count ≤ length values → (a : PlainAnswer) → Promise I path known previous classes a path' known' previous' classes' → r ≡ number_of a
      → values' ≡ output_after (number_of a) (plain_values a) values → PlainExported I path known previous classes values r path' known' previous' classes' values'
