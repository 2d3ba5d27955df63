-- Rooms computed, row by row, under one claim: the number that `why_no_route` answers, its detail, and what its outputs hold in front of the zeros.
use Rattle.std.specs.Prelude.{◌≡◌, refl, List, [], ◌∷◌, ◌++◌, map, ℕ, ◌*◌, replicate, set}
use Rattle.basics.specs.Folds.{along}
use Rattle.room.specs.declared.Room.{Room}
use Rattle.room.specs.declared.RouterConfig.{RouterConfig}
use Rattle.room.specs.Room.{volume, pos_of, cell_of, moves, between, sides_good, stays, neighbour, beneath, distance}
use Rattle.room.specs.Units.{air, solid, lever, usual_config, config_good, ranges_good, dearest}
use Rattle.best_first.specs.Search.{sooner, least, push, offer, expand, trace, take_one, take_all, first_state, best_first}
use Rattle.room_search.specs.Routing.{routeable_kind, routeable, bearing, class_for, price_of, moves_by, graph_of, searched}
use Rattle.routing.specs.Answers.{Answer}
use Rattle.routing.specs.Answers.{Input, task_of, buffers_good, ends_inside, judged, fit_answer, answer_of, number_of, detail_of}
use Rattle.walk.specs.Walks.{meet, spread, parents_from, is_reached}
use Rattle.flood.specs.Walls.{free_by, reached_by, tabled}
use Rattle.why.specs.Why.{obstacle_for, outputs_good, outputs_refused, why_answer, reached_for, walls_for}

-- ---- what is answered

pub record Said : Type 0 where
  pub number : ℕ
  pub detail : ℕ
  pub reached : List ℕ
  pub walls : List ℕ

-- where so many bytes are lent for each output
abbrev answered : Input → ℕ → ℕ → Said
answered I reached walls =
    let a : Answer = why_answer I reached walls in
    record { number = number_of a; detail = detail_of a; reached = reached_for a (task_of I); walls = walls_for a (task_of I) }

abbrev wordless : ℕ → ℕ → Said
wordless number detail = record { number = number; detail = detail; reached = []; walls = [] }

-- number 11
abbrev told : ℕ → List ℕ → List ℕ → Said
told detail reached walls = record { number = 11; detail = detail; reached = reached; walls = walls }

-- ---- the inputs

abbrev room : ℕ → ℕ → ℕ → Room
room x y z = record { wide = x; high = y; deep = z }

abbrev limited : ℕ → RouterConfig
limited limit =
    record { limit = record { 0 = limit }; horizontal = record { 0 = 10 }; stair = record { 0 = 25 }; support = record { 0 = 15 } }

abbrev asked : Room → RouterConfig → List ℕ → ℕ → ℕ → Input
asked R C kinds start goal = record {
  room = R;
  config = C;
  kinds = kinds;
  start = start;
  goal = goal;
  lengths = record { path = volume R; known = volume R; previous = volume R; classes = volume R; queue = 2 * (12 * volume R) };
}

-- a 3x1x1 room from 0 to 2, and a 3x2x1 room from 1 to 5
abbrev line : RouterConfig → List ℕ → Input
line C kinds = asked (room 3 1 1) C kinds 0 2

abbrev stairs : List ℕ → Input
stairs kinds = asked (room 3 2 1) usual_config kinds 1 5

-- ---- row by row

pub record Row : Type 0 where
  pub ask : Input
  pub reached : ℕ
  pub walls : ℕ
  pub answer : Said

abbrev row : Input → ℕ → ℕ → Said → Row
row ask reached walls answer = record { ask = ask; reached = reached; walls = walls; answer = answer }

-- a Solid between the ends; a Lever beside the start and beneath; Levers at 0 and 4
abbrev blocked : Input
blocked = line usual_config (air ∷ solid ∷ air ∷ [])

abbrev lever-beside : Input
lever-beside = stairs (set (replicate 6 air) 2 lever)

abbrev two_levers : Input
two_levers = stairs (set (set (replicate 6 air) 0 lever) 4 lever)

-- the last bytes of a cell of which nothing but its first moves stays in the room
abbrev nine : List ℕ
nine = replicate 9 1

abbrev rows : List Row
rows =
    -- sample d
    row blocked 3 36 (told 1 (1 ∷ 0 ∷ 0 ∷ []) ((1 ∷ 2 ∷ 1 ∷ nine) ++ replicate 24 0))
    -- the same with either output a byte too short
    ∷ row blocked 2 36 (wordless 6 0)
    ∷ row blocked 3 35 (wordless 6 0)
    -- samples b and c: a route, and a search that is cut short
    ∷ row (line usual_config (replicate 3 air)) 3 36 (wordless 0 0)
    ∷ row (line (limited 1) (replicate 3 air)) 3 36 (wordless 12 2)
    -- sample i
    ∷ row lever-beside 6 72 (told 1 (0 ∷ 1 ∷ 0 ∷ 0 ∷ 0 ∷ 0 ∷ []) (replicate 12 0 ++ ((2 ∷ 3 ∷ 1 ∷ nine) ++ replicate 48 0)))
    -- a step back into the start looks at its support as at any other
    ∷ row two_levers 6 72
    (told 3 (0 ∷ 1 ∷ 1 ∷ 1 ∷ 0 ∷ 0 ∷ [])
    (replicate 12 0
    ++ ((0 ∷ 0 ∷ 1 ∷ nine)
    ++ ((1 ∷ 2 ∷ 3 ∷ 1 ∷ 2 ∷ 3 ∷ replicate 6 1) ++ ((2 ∷ 3 ∷ 1 ∷ 2 ∷ 3 ∷ 1 ∷ replicate 6 1) ++ replicate 24 0)))))
    ∷ []

pub why-samples : map (λ s. answered s.ask s.reached s.walls) rows ≡ map (λ s. s.answer) rows
unfolding why_answer outputs_refused outputs_good answer_of judged sides_good config_good ranges_good dearest buffers_good ends_inside fit_answer routeable searched graph_of moves_by price_of class_for bearing routeable_kind pos_of cell_of moves between stays neighbour beneath distance sooner least push offer expand trace take_one take_all first_state best_first tabled reached_by is_reached parents_from spread meet along free_by obstacle_for
why-samples = refl
