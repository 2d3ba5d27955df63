-- Below 10 and 20 the two engines' costs may differ: 2x2x1, all Air, flat steps and stairs free, a new support 9, from 2 to 3. The search answers 18; no
-- answer that keeps the plain engine's promise costs more than 9.
use Rattle.std.specs.Prelude.{◌≡◌, refl, ◌⊎◌, List, [], ◌∷◌, ℕ, ◌≤◌, replicate, Ok}
use Rattle.std.proofs.Common.{ap, inl, inr, arith}
use Rattle.numbers.specs.Refusals.{done_number, no_route_number}
use Rattle.room.specs.Room.{sides_good, pos_of, cell_of, moves, between, stays, neighbour, beneath, distance}
use Rattle.room.specs.Units.{air, config_good, ranges_good, dearest}
use Rattle.best_first.specs.Search.{sooner, least, push, offer, expand, trace, take_one, take_all, first_state, best_first}
use Rattle.room_search.specs.Routing.{routeable_kind, routeable, bearing, class_for, price_of, moves_by, graph_of, searched}
use Rattle.routing.specs.declared.Lengths.{Lengths}
use Rattle.routing.specs.Answers as first
use Rattle.routing.specs.Answers.{Input, task_of, buffers_good, ends_inside, judged, fit_answer, answer_of}
use Rattle.demands.specs.Lawful.{LawfulWay, way_cost, step_cost}
use Rattle.demands.specs.Statements.{Unrefused}
use Rattle.plain.specs.Answers.{PlainAnswer}
use Rattle.plain.specs.Answers.{costs_alone, unused_queue, number_of, route_cost, Promise}
use Rattle.plain_claims.specs.Statements.{search_input, PlainMeaning}
use Rattle.plain_claims.specs.Theorems.{plain-route, plain-means}

abbrev lengths : ℕ → Lengths
lengths queue = record { path = 4; known = 4; previous = 4; classes = 4; queue = queue }

abbrev pub cheap_air : Input
cheap_air = record {
  room = record { wide = 2; high = 2; deep = 1 };
  config = costs_alone (record { 0 = 0 }) (record { 0 = 0 }) (record { 0 = 9 });
  kinds = replicate 4 air;
  start = 2;
  goal = 3;
  lengths = lengths unused_queue;
}

abbrev pub cheap_search : Input
cheap_search = search_input cheap_air (record { 0 = 30000 }) (lengths 96)

pub search_pays_18 : (first.number_of (answer_of cheap_search) ≡ done_number) × (first.route_cost (answer_of cheap_search) ≡ 18)
unfolding answer_of judged sides_good config_good ranges_good dearest buffers_good ends_inside fit_answer routeable searched graph_of moves_by price_of class_for bearing routeable_kind pos_of cell_of moves between stays neighbour beneath distance sooner least push offer expand trace take_one take_all first_state best_first
search_pays_18 = (refl, refl)

-- 2 0 3 is lawful, and costs 9
way_of_9 : LawfulWay (task_of cheap_air) (0 ∷ 3 ∷ [])
unfolding routeable routeable_kind pos_of beneath bearing
way_of_9 = record {
  start_in = omega arith;
  start-free = refl;
  goal-free = refl;
  leads = (record { to_in = omega arith; aside = refl; rise = omega arith; enters = refl; stands = omega arith }, (record { to_in = omega arith; aside = refl; rise = omega arith; enters = refl; stands = omega arith }, refl));
}

costs_9 : way_cost (task_of cheap_air) (0 ∷ 3 ∷ []) ≡ 9
unfolding step_cost pos_of beneath
costs_9 = refl

fit : judged cheap_air ≡ Ok tt
unfolding judged sides_good config_good ranges_good dearest buffers_good ends_inside between
fit = refl

unrefused : Unrefused cheap_air
unfolding routeable routeable_kind
unrefused = record { fit = fit; start-free = refl; goal-free = refl }

pub plain_pays_9 : {path known previous classes : List ℕ} {r : PlainAnswer} {path' known' previous' classes' : List ℕ}
    → Promise cheap_air path known previous classes r path' known' previous' classes' → (number_of r ≡ done_number) × (route_cost r ≤ 9)
plain_pays_9 {path} {r = r} {path'} P = go (M.settled unrefused)
  where
    M : PlainMeaning cheap_air path r path'
    M = plain-means cheap_air P

    go : (number_of r ≡ done_number) ⊎ (number_of r ≡ no_route_number) → (number_of r ≡ done_number) × (route_cost r ≤ 9)
    go (inr e) = absurd (M.no_route_true e (0 ∷ 3 ∷ []) way_of_9)
    go (inl e) =
        let w = plain-route r e in
        (e, omega (arith, (M.route-held w.0 w.1).cheapest (0 ∷ 3 ∷ []) way_of_9, costs_9, ap route_cost w.1))
