-- The sample rooms a to j of docs/RULES.md, computed: what the public search answers, row by row, under one claim. Rooms k and l are in SheetSamples.
use Rattle.std.specs.Prelude.{◌≡◌, refl, List, [], ◌∷◌, map, ℕ, ◌*◌, replicate, set}
use Rattle.room.specs.declared.Room.{Room}
use Rattle.room.specs.declared.RouterConfig.{RouterConfig}
use Rattle.room.specs.Room.{volume, pos_of, cell_of, moves, between, sides_good, stays, neighbour, beneath, distance}
use Rattle.room.specs.Units.{air, solid, redstone_wire, lever, usual_config, config_good, ranges_good, dearest}
use Rattle.best_first.specs.Search.{sooner, least, push, offer, expand, trace, take_one, take_all, first_state, best_first}
use Rattle.room_search.specs.Routing.{routeable_kind, routeable, bearing, class_for, price_of, moves_by, graph_of, searched}
use Rattle.routing.specs.Answers.{Input, buffers_good, ends_inside, judged, fit_answer, answer_of, number_of, detail_of, route_cost, route_expanded, cells_for}

-- ---- what is answered

-- the number and its detail, or, with number 0, the path, its cost and the expanded count
pub record Said : Type 0 where
  pub number : ℕ
  pub detail : ℕ
  pub path : List ℕ
  pub cost : ℕ
  pub expanded : ℕ

abbrev said : Input → Said
said I = record {
  number = number_of (answer_of I);
  detail = detail_of (answer_of I);
  path = cells_for (answer_of I) I;
  cost = route_cost (answer_of I);
  expanded = route_expanded (answer_of I);
}

abbrev refusal : ℕ → ℕ → Said
refusal number detail = record { number = number; detail = detail; path = []; cost = 0; expanded = 0 }

abbrev route_said : List ℕ → ℕ → ℕ → Said
route_said path cost expanded = record { number = 0; detail = 0; path = path; cost = cost; expanded = expanded }

-- ---- the inputs

abbrev room : ℕ → ℕ → ℕ → Room
room x y z = record { wide = x; high = y; deep = z }

-- the usual config with another node limit or support cost
abbrev config : ℕ → ℕ → RouterConfig
config limit support =
    record { limit = record { 0 = limit }; horizontal = record { 0 = 10 }; stair = record { 0 = 25 }; support = record { 0 = support } }

abbrev asked_with : ℕ → Room → RouterConfig → List ℕ → ℕ → ℕ → Input
asked_with places R C kinds start goal = record {
  room = R;
  config = C;
  kinds = kinds;
  start = start;
  goal = goal;
  lengths = record { path = volume R; known = volume R; previous = volume R; classes = volume R; queue = 2 * places };
}

-- "queue 12V"
abbrev asked : Room → RouterConfig → List ℕ → ℕ → ℕ → Input
asked R = asked_with (12 * volume R) R

-- the room of b, 3x1x1 from 0 to 2; that of g, 3x2x1 from 1 to 5; that of j, 3x1x3 from 4 to 0
abbrev line : RouterConfig → List ℕ → Input
line C kinds = asked (room 3 1 1) C kinds 0 2

abbrev stairs : RouterConfig → List ℕ → Input
stairs C kinds = asked (room 3 2 1) C kinds 1 5

abbrev square : ℕ → Input
square places = asked_with places (room 3 1 3) usual_config (replicate 9 air) 4 0

-- ---- the rows

record Sample : Type 0 where
  ask : Input
  answer : Said

abbrev rows : List Sample
rows =
    -- a
    record { ask = asked (room 1 1 1) usual_config (air ∷ []) 0 0; answer = route_said (0 ∷ []) 0 0 }
    -- b
    ∷ record { ask = line usual_config (replicate 3 air); answer = route_said (0 ∷ 1 ∷ 2 ∷ []) 20 2 }
    -- c
    ∷ record { ask = line (config 1 15) (replicate 3 air); answer = refusal 12 2 }
    ∷ record { ask = line (config 2 15) (replicate 3 air); answer = route_said (0 ∷ 1 ∷ 2 ∷ []) 20 2 }
    -- d
    ∷ record { ask = line usual_config (air ∷ solid ∷ air ∷ []); answer = refusal 11 1 }
    ∷ record { ask = line usual_config (air ∷ redstone_wire ∷ air ∷ []); answer = refusal 11 1 }
    -- e
    ∷ record { ask = line usual_config (air ∷ air ∷ redstone_wire ∷ []); answer = route_said (0 ∷ 1 ∷ 2 ∷ []) 20 2 }
    ∷ record { ask = line usual_config (air ∷ air ∷ lever ∷ []); answer = refusal 10 2 }
    -- f
    ∷ record { ask = asked (room 3 2 1) usual_config (set (replicate 6 air) 2 solid) 0 4; answer = route_said (0 ∷ 3 ∷ 4 ∷ []) 50 2 }
    -- g
    ∷ record { ask = stairs usual_config (replicate 6 air); answer = route_said (1 ∷ 3 ∷ 5 ∷ []) 50 4 }
    -- h
    ∷ record { ask = stairs (config 30000 40) (replicate 6 air); answer = route_said (1 ∷ 2 ∷ 5 ∷ []) 90 5 }
    -- i
    ∷ record { ask = stairs usual_config (set (replicate 6 air) 2 lever); answer = refusal 11 1 }
    -- j
    ∷ record { ask = square (12 * 9); answer = route_said (4 ∷ 1 ∷ 0 ∷ []) 20 3 }
    ∷ record { ask = square 5; answer = route_said (4 ∷ 1 ∷ 0 ∷ []) 20 3 }
    ∷ record { ask = square 4; answer = refusal 13 2 }
    ∷ []

pub samples : map (λ s. said s.ask) rows ≡ map (λ s. s.answer) rows
unfolding answer_of judged sides_good config_good ranges_good dearest buffers_good ends_inside fit_answer routeable searched graph_of moves_by price_of class_for bearing routeable_kind pos_of cell_of moves between stays neighbour beneath distance sooner least push offer expand trace take_one take_all first_state best_first
samples = refl
