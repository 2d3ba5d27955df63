-- What numbers 11 and 13 of the public answer say of the search's, which numbers a decided search has, and that the expanded count is the search's.
use Rattle.std.specs.Prelude.{◌≡◌, refl, ◌⊎◌, ℕ}
use Rattle.std.proofs.Common.{inl, inr, arith}
use Rattle.numbers.specs.Refusals.{done_number, no_route_number, queue_full_number}
use Rattle.best_first.specs.Search.{Answer, route, no_route, limit-passed, queue-full}
use Rattle.best_first.specs.Statements.{Decided, by-route, by_no_route, expanded_of}
use Rattle.room_search.specs.Routing.{Task}
use Rattle.routing.specs.Answers.{answered, number_of}
use Rattle.demands.specs.Statements.{expanded_for}

pub number_no_route : (T : Task) (a : Answer) → number_of (answered T a) ≡ no_route_number → (x : ℕ) × (a ≡ no_route x)
number_no_route T (route path cost x) z = absurd (omega arith)
number_no_route T (no_route x) z = (x, refl)
number_no_route T (limit-passed x) z = absurd (omega arith)
number_no_route T (queue-full x) z = absurd (omega arith)

pub number-full : (T : Task) (a : Answer) → number_of (answered T a) ≡ queue_full_number → (x : ℕ) × (a ≡ queue-full x)
number-full T (route path cost x) z = absurd (omega arith)
number-full T (no_route x) z = absurd (omega arith)
number-full T (limit-passed x) z = absurd (omega arith)
number-full T (queue-full x) z = (x, refl)

pub number-settled : (T : Task) {a : Answer} → Decided a → (number_of (answered T a) ≡ done_number) ⊎ (number_of (answered T a) ≡ no_route_number)
number-settled T (by-route path cost x) = inl refl
number-settled T (by_no_route x) = inr refl

pub same-expanded : (T : Task) (a : Answer) → expanded_for (answered T a) ≡ expanded_of a
same-expanded T (route path cost x) = refl
same-expanded T (no_route x) = refl
same-expanded T (limit-passed x) = refl
same-expanded T (queue-full x) = refl
