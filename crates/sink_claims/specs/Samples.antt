-- Small rooms computed, row by row, under one claim: how the growth stops at the turn of their one sink, and what is told of it in each mode.
use Rattle.std.specs.Prelude.{◌≡◌, refl, List, [], ◌∷◌, ◌++◌, map, ℕ, ◌*◌, replicate}
use Rattle.basics.specs.Folds.{along}
use Rattle.basics.specs.Lists.{all_below}
use Rattle.room.specs.declared.Room.{Room}
use Rattle.room.specs.declared.Pos.{Pos}
use Rattle.room.specs.declared.RouterConfig.{RouterConfig}
use Rattle.room.specs.Room.{volume, at, pos_of, cell_of, moves, between, stays, neighbour, beneath, above, distance, first_below}
use Rattle.room.specs.Units.{solid, lever, facing_move, ahead, usual_config}
use Rattle.ground.specs.declared.Mode.{Mode}
use Rattle.ground.specs.declared.Mode.TheVariants.{Published, Strict}
use Rattle.best_first.specs.Search.{sooner, least, push, offer, expand, trace, take_one, take_all, first_state, best_first}
use Rattle.room_search.specs.Routing.{routeable_kind, routeable, bearing, class_for, price_of, moves_by, graph_of, searched}
use Rattle.routing_resources.specs.Marks.{with_byte}
use Rattle.routing_resources.specs.Resources.{directions, is_neighbour, in_keepout, clearance_of, is_clearance}
use Rattle.port_realization.specs.Ports.{terminal_of, approach_of, realized_of}
use Rattle.job_sheet.specs.declared.Block.{Block}
use Rattle.job_sheet.specs.declared.Endpoint.{Endpoint}
use Rattle.job_sheet.specs.Sheet.{Contents}
use Rattle.job_sheet.specs.UsualLimits.{usual_run, usual_tail}
use Rattle.blocks.specs.Blocks.{Placed}
use Rattle.blocks.specs.Blocks.{of_block, tabulated, kinds_of, nodes_of}
use Rattle.ends.specs.Ends as endings
use Rattle.outset.specs.SetOut.{Outset}
use Rattle.outset.specs.Outset as outset-of
use Rattle.geometry.specs.Geometry.{stands_in, conductor, upper_of_pair, first_pair, at_clearance, stair_conflict, conflict_among}
use Rattle.blocked_world.specs.BlockedWorld.{blocked_air, seen_kinds}
use Rattle.goals.specs.Goals.{searched_for, at_conflict, after_search, attempts, cheaper_route, tried_goal, best_below, route_to_tree}
use Rattle.branches.specs.Branches.{branch_of, all_but_last}
use Rattle.walk.specs.Walks.{meet, spread, parents_from, is_reached}
use Rattle.flood.specs.Walls.{free_by, reached_by, tabled}
use Rattle.why.specs.Why.{obstacle_for}
use Rattle.multinet.specs.Tree.{Plot, Tree, Growth, stopped, planted, with_branch, after_sink, grow_sink}
use Rattle.causes.specs.Causes.{foreign_cause, cause_of}
use Rattle.why_tree.specs.WhyTree.{kept_free, tree_obstacle, reaches_none, ample, verdict_for, verdict_of}
use Rattle.net_tree.specs.declared.Lengths.{Lengths}
use Rattle.net_tree.specs.Answers.{plot_for}
use Rattle.sink_why.specs.SinkWhy.{Reason, reason_at}

-- ---- the jobs: a Wire source, one Wire sink, and at most one block and one conductor of another net

abbrev wire_at : Pos → Endpoint
wire_at p = record { at = p; port = 0; facing = 0 }

abbrev block_at : Pos → ℕ → List Block
block_at p kind = record { node = 0; at = p; kind = kind; facing = 0 } ∷ []

abbrev job : Room → RouterConfig → List Block → List Pos → Pos → Pos → Contents
job R C blocks conductors source sink = record {
  room = R;
  config = C;
  run = usual_run;
  blocks = blocks;
  conductors = conductors;
  clearances = [];
  terminals = [];
  reserved = [];
  source = wire_at source;
  sinks = record { end = wire_at sink; tail = usual_tail } ∷ [];
}

abbrev room : ℕ → ℕ → ℕ → Room
room x y z = record { wide = x; high = y; deep = z }

abbrev limited : ℕ → RouterConfig
limited limit =
    record { limit = record { 0 = limit }; horizontal = record { 0 = 10 }; stair = record { 0 = 25 }; support = record { 0 = 15 } }

-- a row of three cells, the source at 0 and the sink at 2
abbrev line : RouterConfig → List Block → Contents
line C blocks = job (room 3 1 1) C blocks [] (at 0 0 0) (at 2 0 0)

-- ---- what comes of their sink's turn

abbrev lengths : ℕ → Lengths
lengths n = record {
  branches = 16 * n;
  occupied = n;
  repeaters = n;
  kinds = n;
  blocked = n;
  classes = n;
  joinable = n;
  known = n;
  previous = n;
  path = n;
  best = n;
  queue = 24 * n;
}

abbrev outset_for : Contents → Outset
outset_for J = record { placement = Placed; fault = endings.fault_of J.room J.source J.sinks; ends = endings.ends_of J.room J.source J.sinks }

abbrev plot_in : Mode → Contents → Plot
plot_in mode J = plot_for mode J (lengths (volume J.room)) (outset_for J) (kinds_of J.room J.blocks)

abbrev tree_in : Mode → Contents → Tree
tree_in mode J =
    planted (plot_in mode J)
    (outset-of.blocked_at_outset (kinds_of J.room J.blocks) (nodes_of J.room J.blocks) J (outset_for J).ends.source (outset_for J).ends.taps)

pub record Said : Type 0 where
  pub growth : Growth
  pub reason : Reason

abbrev told : Mode → Contents → Said
told mode J = record {
  growth = grow_sink (plot_in mode J) 0 (tree_in mode J);
  reason = reason_at J (plot_in mode J) (nodes_of J.room J.blocks) (tree_in mode J) 0 (verdict_of (plot_in mode J) (tree_in mode J) 0 14);
}

-- number 14 with the approach, and a verdict without outputs, or with them
abbrev wordless : ℕ → ℕ → Said
wordless approach verdict = record { growth = stopped 14 approach; reason = record { place = 1; verdict = verdict; reached = []; walls = []; causes = [] } }

abbrev shut : ℕ → List ℕ → List ℕ → List ℕ → Said
shut approach reached walls causes =
    record { growth = stopped 14 approach; reason = record { place = 1; verdict = 2; reached = reached; walls = walls; causes = causes } }

-- ---- row by row

pub record Row : Type 0 where
  pub mode : Mode
  pub contents : Contents
  pub answer : Said

abbrev row : Mode → Contents → Said → Row
row mode contents answer = record { mode = mode; contents = contents; answer = answer }

abbrev rows : List Row
rows =
    -- a block in the sink's own cell
    row Published (line usual_config (block_at (at 2 0 0) lever)) (wordless 2 1)
    -- a closet: Solid between the source and the sink
    ∷ row Published (line usual_config (block_at (at 1 0 0) solid))
    (shut 2 (0 ∷ 0 ∷ 1 ∷ []) (replicate 24 0 ++ (1 ∷ 1 ∷ 1 ∷ 1 ∷ 2 ∷ 1 ∷ replicate 6 1)) (replicate 3 0))
    -- the same, by another net's conductor between them and its keepout
    ∷ row Published (job (room 5 1 1) usual_config [] (at 2 0 0 ∷ []) (at 0 0 0) (at 4 0 0))
    (shut 4 (0 ∷ 0 ∷ 0 ∷ 0 ∷ 1 ∷ []) (replicate 48 0 ++ (1 ∷ 1 ∷ 1 ∷ 1 ∷ 4 ∷ 1 ∷ replicate 6 1)) (0 ∷ 2 ∷ 1 ∷ 2 ∷ 0 ∷ []))
    -- a node limit of 1
    ∷ row Published (line (limited 1) []) (wordless 2 4)
    -- 14 doesn't say that there is no way: 4 5 9 6 0 is lawful and free of conflicts; and 3 7 4 0, with Solid at 2
    ∷ row Published (job (room 2 3 2) usual_config [] [] (at 0 0 0) (at 0 2 0)) (wordless 4 3)
    ∷ row Published (job (room 2 2 2) usual_config (block_at (at 0 1 0) solid) [] (at 0 0 0) (at 0 1 1)) (wordless 3 3)
    -- another net's conductor at cell 1, which wire on 4 would rest on
    ∷ row Strict (job (room 1 2 3) usual_config [] (at 0 0 1 ∷ []) (at 0 1 0) (at 0 1 2))
    (shut 5 (0 ∷ 0 ∷ 0 ∷ 0 ∷ 0 ∷ 1 ∷ []) (replicate 60 0 ++ (replicate 9 1 ++ (4 ∷ 5 ∷ 1 ∷ []))) (0 ∷ 1 ∷ 0 ∷ 0 ∷ 0 ∷ 0 ∷ []))
    ∷ []

pub why-samples : map (λ s. told s.mode s.contents) rows ≡ map (λ s. s.answer) rows
unfolding routeable searched graph_of moves_by price_of class_for bearing routeable_kind pos_of cell_of moves between stays neighbour beneath distance sooner least push offer expand trace take_one take_all first_state best_first grow_sink after_sink with_branch planted route_to_tree best_below tried_goal cheaper_route attempts after_search at_conflict searched_for blocked_air seen_kinds stands_in conductor upper_of_pair first_below first_pair at_clearance stair_conflict conflict_among with_byte clearance_of is_clearance branch_of all_but_last above of_block tabulated endings.source_end endings.sink_end endings.first_due endings.tap_of endings.fault_of endings.ends_of terminal_of approach_of realized_of outset-of.powers outset-of.solid_of outset-of.block_keepout outset-of.blocked_by outset-of.at_or_beneath outset-of.own_cell outset-of.blocked_at_outset facing_move ahead is_neighbour in_keepout directions meet spread parents_from is_reached along free_by reached_by tabled obstacle_for kept_free tree_obstacle all_below reaches_none ample verdict_for foreign_cause cause_of reason_at
why-samples = refl
