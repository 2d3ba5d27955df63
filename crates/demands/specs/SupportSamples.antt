-- The totals of sample rooms, computed: rooms g and h of docs/RULES.md, and those of docs/DIFFERENCES.md, Supports, row by row, under one claim.
use Rattle.std.specs.Prelude.{◌≡◌, refl, List, [], ◌∷◌, map, ℕ, ◌*◌, replicate, set}
use Rattle.room.specs.declared.Room.{Room}
use Rattle.room.specs.declared.RouterConfig.{RouterConfig}
use Rattle.room.specs.Room.{volume, pos_of, cell_of, moves, between, sides_good, stays, neighbour, beneath, distance}
use Rattle.room.specs.Units.{air, lever, config_good, ranges_good, dearest}
use Rattle.best_first.specs.Search.{sooner, least, push, offer, expand, trace, take_one, take_all, first_state, best_first}
use Rattle.room_search.specs.Routing.{routeable_kind, routeable, bearing, class_for, price_of, moves_by, graph_of, searched}
use Rattle.routing.specs.Totals.{step_of, laid_at}
use Rattle.routing.specs.Answers.{Input, buffers_good, ends_inside, judged, fit_answer, answer_of, cells_for}
use Rattle.reply.specs.Replies.{route_of}

-- ---- what is counted

pub record Counted : Type 0 where
  pub path : List ℕ
  pub cost : ℕ
  pub steps : ℕ
  pub supports : ℕ
  pub laid : ℕ

abbrev counted : Input → Counted
counted I = record {
  path = cells_for (answer_of I) I;
  cost = (route_of (answer_of I)).cost.0;
  steps = (route_of (answer_of I)).steps.0;
  supports = (route_of (answer_of I)).supports.0;
  laid = (route_of (answer_of I)).laid;
}

-- ---- the inputs: flat steps of 10, stairs of 25, and this support cost

abbrev config : ℕ → RouterConfig
config support =
    record { limit = record { 0 = 30000 }; horizontal = record { 0 = 10 }; stair = record { 0 = 25 }; support = record { 0 = support } }

abbrev room : ℕ → ℕ → Room
room x y = record { wide = x; high = y; deep = 1 }

abbrev asked : Room → ℕ → List ℕ → ℕ → ℕ → Input
asked R support kinds start goal = record {
  room = R;
  config = config support;
  kinds = kinds;
  start = start;
  goal = goal;
  lengths = record { path = volume R; known = volume R; previous = volume R; classes = volume R; queue = 24 * volume R };
}

-- ---- the rows

record Sample : Type 0 where
  ask : Input
  answer : Counted

abbrev rows : List Sample
rows =
    -- g and h
    record { ask = asked (room 3 2) 15 (replicate 6 air) 1 5; answer = record { path = 1 ∷ 3 ∷ 5 ∷ []; cost = 50; steps = 20; supports = 30; laid = 2 } }
    ∷ record { ask = asked (room 3 2) 40 (replicate 6 air) 1 5; answer = record { path = 1 ∷ 2 ∷ 5 ∷ []; cost = 90; steps = 50; supports = 40; laid = 1 } }
    -- the start's own support is not counted; at a support cost of 0 the count tells what the amount does not
    ∷ record { ask = asked (room 2 2) 15 (replicate 4 air) 1 3; answer = record { path = 1 ∷ 3 ∷ []; cost = 25; steps = 10; supports = 15; laid = 1 } }
    ∷ record { ask = asked (room 2 2) 0 (replicate 4 air) 1 3; answer = record { path = 1 ∷ 3 ∷ []; cost = 10; steps = 10; supports = 0; laid = 1 } }
    -- one of three falls on the path itself
    ∷ record {
      ask = asked (room 4 4) 15 (set (set (replicate 16 air) 2 lever) 10 lever) 3 5;
      answer = record { path = 3 ∷ 6 ∷ 9 ∷ 5 ∷ []; cost = 105; steps = 60; supports = 45; laid = 3 };
    }
    ∷ []

pub support_samples : map (λ s. counted s.ask) rows ≡ map (λ s. s.answer) rows
unfolding answer_of judged sides_good config_good ranges_good dearest buffers_good ends_inside fit_answer routeable searched graph_of moves_by price_of class_for bearing routeable_kind step_of laid_at pos_of cell_of moves between stays neighbour beneath distance sooner least push offer expand trace take_one take_all first_state best_first
support_samples = refl
