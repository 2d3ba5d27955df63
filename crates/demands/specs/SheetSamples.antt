-- The sample rooms k and l of docs/RULES.md, a row of cells at other limits, and two rooms in both modes, computed from the bytes of their sheets: what
-- comes of a sheet, its branch, its occupied cells and its repeaters, or its number, row by row, under one claim.
use Rattle.std.specs.Prelude.{◌≡◌, refl, true, List, [], ◌∷◌, ◌++◌, ℕ, zero, suc, ◌*◌, ◌<◌, leb, length, replicate, set}
use Rattle.std.proofs.Common.{inl, inr, arith, leb-true}
use Rattle.basics.specs.Folds.{along}
use Rattle.room.specs.declared.Room.{Room}
use Rattle.room.specs.declared.Pos.{Pos}
use Rattle.room.specs.Room.{at, within, pos_of, cell_of, moves, between, stays, neighbour, beneath, above, distance, first_below}
use Rattle.room.specs.Units.{solid, facing_move, ahead, usual_config, dearest, ranges_good, config_good}
use Rattle.ground.specs.declared.Mode.{Mode}
use Rattle.ground.specs.declared.Mode.TheVariants.{Published, Strict}
use Rattle.best_first.specs.Search.{sooner, least, push, offer, expand, trace, take_one, take_all, first_state, best_first}
use Rattle.room_search.specs.Routing.{routeable_kind, routeable, bearing, class_for, price_of, moves_by, graph_of, searched}
use Rattle.routing_resources.specs.Marks.{with_byte}
use Rattle.routing_resources.specs.Resources.{directions, is_neighbour, in_keepout, clearance_of, is_clearance}
use Rattle.port_realization.specs.Ports.{terminal_of, approach_of, realized_of}
use Rattle.job_sheet.specs.declared.Block.{Block}
use Rattle.job_sheet.specs.declared.Endpoint.{Endpoint}
use Rattle.job_sheet.specs.declared.Judgement.TheVariants.{Good}
use Rattle.job_sheet.specs.UsualLimits.{usual_run, usual_tail}
use Rattle.job_sheet.specs.Version.{version_of, version_in, sides_within, costs_within, config_within, limit_within}
use Rattle.job_sheet.specs.Sheet as sheets
use Rattle.job_sheet.specs.Sheet.{Contents, max_bytes, max_sinks, rest, bytes_by, tells_limits, first_fault, block_fault, endpoint_fault, sink_fault, judged}
use Rattle.blocks.specs.Blocks.{Placed}
use Rattle.blocks.specs.Blocks.{of_block, tabulated, kinds_of, nodes_of, record_node, Repeat, each-its-own}
use Rattle.ends.specs.Ends as endings
use Rattle.outset.specs.SetOut.{Outset}
use Rattle.outset.specs.Outset as outset-of
use Rattle.outset.specs.SetOut.{ready}
use Rattle.geometry.specs.Geometry.{stands_in, conductor, upper_of_pair, first_pair, at_clearance, stair_conflict, conflict_among}
use Rattle.blocked_world.specs.BlockedWorld.{blocked_air, seen_kinds}
use Rattle.turns.specs.Turns.{far, goes_before, turn_of, sink_at}
use Rattle.goals.specs.Goals.{searched_for, at_conflict, after_search, attempts, cheaper_route, tried_goal, best_below, route_to_tree}
use Rattle.branches.specs.Branches.{branch_of, all_but_last}
use Rattle.walk.specs.Walks as walks
use Rattle.repeaters.specs.Repeaters as repeaters
use Rattle.repeaters.specs.NetEnds.{is_net_end}
use Rattle.multinet.specs.Tree.{planted, with_branch, after_sink, grow_sink, grow_from, growth_of, repeaters_of}
use Rattle.net_tree.specs.declared.Lengths.{Lengths}
use Rattle.net_tree.specs.Answers.{TreeOutcome, routed, no_tree, buffers_good, job_outcome, Comes, set_out}

-- ---- what comes of a sheet with at most one block

-- a block alone is no repeat
alone : (R : Room) (bs : List Block) → leb (length bs) 1 ≡ true → (i : ℕ) → Repeat R bs (length bs) i → ⊥
alone R bs few i r =
    let one = leb-true (length bs) 1 few in
    let i-first : i ≡ 0 = omega (arith, r.repeat_in, one) in
    let holder-first : r.holder ≡ 0 = omega (arith, r.holder_in, one) in
    elim r.held [
      | inl h ↦ (let z : record_node bs 0 < record_node bs 0 = rw (i-first, holder-first) at h in omega arith)
      | inr h ↦ omega (arith, h.1, i-first, holder-first)
    ]

abbrev outset_for : Contents → Outset
outset_for J = record { placement = Placed; fault = endings.fault_of J.room J.source J.sinks; ends = endings.ends_of J.room J.source J.sinks }

abbrev blocked_for : Contents → List ℕ
blocked_for J =
    outset-of.blocked_at_outset (kinds_of J.room J.blocks) (nodes_of J.room J.blocks) J (outset_for J).ends.source (outset_for J).ends.taps

comes-by : (mode : Mode) (J : Contents) {sheet : List ℕ} {L : Lengths} {o : TreeOutcome} → bytes_by (version_in sheet) J ≡ sheet → tells_limits (version_in sheet) J ≡ true → leb (length sheet) max_bytes ≡ true → leb (length J.sinks) max_sinks ≡ true
    → judged (version_in sheet) J ≡ Good → buffers_good J.room L ≡ true → leb (length J.blocks) 1 ≡ true → ready (outset_for J) ≡ true
    → o ≡ job_outcome mode J L (outset_for J) (kinds_of J.room J.blocks) (blocked_for J) → Comes mode sheet L o
comes-by mode J {sheet} bytes limits short few good lent one is-ready is =
    set_out J
    (record { bytes = bytes; limits = limits; short = leb-true (length sheet) max_bytes short; few-sinks = leb-true (length J.sinks) max_sinks few })
    good
    lent
    (outset_for J)
    (kinds_of J.room J.blocks)
    (nodes_of J.room J.blocks)
    (blocked_for J)
    (record {
      laid = record { placing = each-its-own (alone J.room J.blocks one) refl; kinds-are = refl; nodes-are = refl };
      fault-is = refl;
      ends-are = refl;
      blocked-are = rw is-ready;
    })
    is

-- ---- the sheets

-- a row of n cells with a Wire source at 0 and one sink, costs 10, 25, 15 and node limit 30,000; so many bytes stand behind the length
abbrev sheet_of : ℕ → ℕ → List ℕ → List ℕ → List ℕ
sheet_of size n blocks sink =
    (1 ∷ 0 ∷ 0 ∷ 0 ∷ size ∷ n ∷ 1 ∷ 1 ∷ [])
    ++ (0 ∷ 0 ∷ 117 ∷ 48 ∷ 0 ∷ 0 ∷ 0 ∷ 10 ∷ 0 ∷ 0 ∷ 0 ∷ 25 ∷ 0 ∷ 0 ∷ 0 ∷ 15 ∷ [])
    ++ blocks
    ++ (0 ∷ 0 ∷ 0 ∷ 0 ∷ 0 ∷ 0 ∷ 0 ∷ 0 ∷ [])
    ++ (0 ∷ 0 ∷ 0 ∷ 0 ∷ 0 ∷ [])
    ++ (1 ∷ [])
    ++ sink

-- without blocks, with a Wire sink
abbrev wire_sheet : ℕ → ℕ → List ℕ
wire_sheet n sink = sheet_of 40 n (0 ∷ 0 ∷ []) (sink ∷ 0 ∷ 0 ∷ 0 ∷ 0 ∷ [])

-- the costs and the node limit, as above
abbrev costs : List ℕ
costs = 0 ∷ 0 ∷ 117 ∷ 48 ∷ 0 ∷ 0 ∷ 0 ∷ 10 ∷ 0 ∷ 0 ∷ 0 ∷ 25 ∷ 0 ∷ 0 ∷ 0 ∷ 15 ∷ []

-- 1x2x3, a conductor of another net at cell 1, a Wire source at 3, a Wire sink at 5
abbrev on_wire_sheet : List ℕ
on_wire_sheet =
    (1 ∷ 0 ∷ 0 ∷ 0 ∷ 43 ∷ 1 ∷ 2 ∷ 3 ∷ [])
    ++ costs
    ++ (0 ∷ 0 ∷ 0 ∷ 1 ∷ 0 ∷ 0 ∷ 1 ∷ 0 ∷ 0 ∷ 0 ∷ 0 ∷ 0 ∷ 0 ∷ [])
    ++ (0 ∷ 1 ∷ 0 ∷ 0 ∷ 0 ∷ 1 ∷ 0 ∷ 1 ∷ 2 ∷ 0 ∷ 0 ∷ [])

-- 2x3x2, a Wire source at 0, a Wire sink at 10
abbrev empty_sheet : List ℕ
empty_sheet =
    (1 ∷ 0 ∷ 0 ∷ 0 ∷ 40 ∷ 2 ∷ 3 ∷ 2 ∷ [])
    ++ costs
    ++ replicate 10 0
    ++ (0 ∷ 0 ∷ 0 ∷ 0 ∷ 0 ∷ 1 ∷ 1 ∷ 2 ∷ 0 ∷ 0 ∷ 0 ∷ [])

-- version 2: 10x1x1, a Wire source at 0, a Wire sink at 9; with this run limit, and this tail limit of the sink
abbrev limit_sheet : ℕ → ℕ → List ℕ
limit_sheet run tail =
    (2 ∷ 0 ∷ 0 ∷ 0 ∷ 42 ∷ 10 ∷ 1 ∷ 1 ∷ [])
    ++ costs
    ++ (run ∷ [])
    ++ replicate 10 0
    ++ (0 ∷ 0 ∷ 0 ∷ 0 ∷ 0 ∷ 1 ∷ 9 ∷ 0 ∷ 0 ∷ 0 ∷ 0 ∷ tail ∷ [])

-- "queue 12V"; a branch buffer of 16 cells for each cell of the row
abbrev lengths : ℕ → Lengths
lengths n = record {
  branches = 16 * n;
  occupied = n;
  repeaters = n;
  kinds = n;
  blocked = n;
  classes = n;
  joinable = n;
  known = n;
  previous = n;
  path = n;
  best = n;
  queue = 24 * n;
}

-- what they mean
abbrev wire_at : ℕ → Endpoint
wire_at x = record { at = at x 0 0; port = 0; facing = 0 }

abbrev row_by : ℕ → ℕ → ℕ → List Block → Endpoint → Contents
row_by run tail n blocks sink = record {
  room = record { wide = n; high = 1; deep = 1 };
  config = usual_config;
  run = run;
  blocks = blocks;
  conductors = [];
  clearances = [];
  terminals = [];
  reserved = [];
  source = wire_at 0;
  sinks = record { end = sink; tail = tail } ∷ [];
}

abbrev row : ℕ → List Block → Endpoint → Contents
row = row_by usual_run usual_tail

abbrev between_wires : Room → List Pos → Endpoint → Endpoint → Contents
between_wires room conductors source sink = record {
  room = room;
  config = usual_config;
  run = usual_run;
  blocks = [];
  conductors = conductors;
  clearances = [];
  terminals = [];
  reserved = [];
  source = source;
  sinks = record { end = sink; tail = usual_tail } ∷ [];
}

abbrev on_wire : Contents
on_wire =
    between_wires (record { wide = 1; high = 2; deep = 3 }) (at 0 0 1 ∷ [])
    (record { at = at 0 1 0; port = 0; facing = 0 }) (record { at = at 0 1 2; port = 0; facing = 0 })

abbrev empty : Contents
empty = between_wires (record { wide = 2; high = 3; deep = 2 }) [] (wire_at 0) (record { at = at 1 2 0; port = 0; facing = 0 })

-- ---- the rows

abbrev up_to : ℕ → ℕ → List ℕ
up_to zero v = v ∷ []
up_to (suc n) v = v ∷ up_to n (suc v)

-- one branch over the first cells, which are occupied, so many being left free behind them; and these marks of repeaters
abbrev tree : ℕ → ℕ → List ℕ → TreeOutcome
tree last free marks = routed (up_to last 0 ∷ []) (replicate (suc last) 1 ++ replicate free 0) marks

-- one branch, these cells occupied, no repeater
abbrev branch_over : List ℕ → List ℕ → TreeOutcome
branch_over cells marks = routed (cells ∷ []) marks (replicate (length marks) 0)

pub record SheetSample : Type 0 where
  pub mode : Mode
  pub sheet : List ℕ
  pub cells : ℕ
  pub outcome : TreeOutcome

abbrev rows : List SheetSample
rows =
    -- k, "20x1x1, Wire source at 0, one Wire sink, facing 0"
    record { mode = Published; sheet = wire_sheet 20 8; cells = 20; outcome = tree 8 11 (replicate 20 0) }
    ∷ record { mode = Published; sheet = wire_sheet 20 9; cells = 20; outcome = tree 9 10 (set (replicate 20 0) 1 1) }
    ∷ record { mode = Published; sheet = wire_sheet 20 12; cells = 20; outcome = tree 12 7 (set (replicate 20 0) 4 1) }
    ∷ record { mode = Published; sheet = wire_sheet 20 13; cells = 20; outcome = tree 13 6 (set (replicate 20 0) 12 1) }
    ∷ record { mode = Published; sheet = wire_sheet 20 16; cells = 20; outcome = tree 16 3 (set (replicate 20 0) 13 1) }
    -- the same in a row of 10 cells, the sink in the last
    ∷ record { mode = Published; sheet = wire_sheet 10 9; cells = 10; outcome = tree 9 0 (set (replicate 10 0) 1 1) }
    -- at other limits: run and tail
    ∷ record { mode = Published; sheet = limit_sheet 12 3; cells = 10; outcome = tree 9 0 (set (replicate 10 0) 6 1) }
    ∷ record { mode = Published; sheet = limit_sheet 4 3; cells = 10; outcome = tree 9 0 (set (set (replicate 10 0) 5 1) 7 1) }
    ∷ record { mode = Published; sheet = limit_sheet 12 15; cells = 10; outcome = tree 9 0 (replicate 10 0) }
    ∷ record { mode = Published; sheet = limit_sheet 1 1; cells = 10; outcome = tree 9 0 (0 ∷ 0 ∷ 1 ∷ 0 ∷ 1 ∷ 0 ∷ 1 ∷ 0 ∷ 1 ∷ 0 ∷ []) }
    -- l, "6x1x1, Wire source at 0, Solid block at 5, BlockPower sink at 5 facing West"
    ∷ record { mode = Published; sheet = sheet_of 47 6 (0 ∷ 1 ∷ 0 ∷ 0 ∷ 5 ∷ 0 ∷ 0 ∷ solid ∷ 0 ∷ []) (5 ∷ 0 ∷ 0 ∷ 1 ∷ 4 ∷ []); cells = 6; outcome = tree 4 1 (replicate 6 0) }
    -- another net's conductor at cell 1, which wire on 4 would rest on: in strict mode there is no way
    ∷ record { mode = Published; sheet = on_wire_sheet; cells = 6; outcome = branch_over (3 ∷ 4 ∷ 5 ∷ []) (0 ∷ 0 ∷ 0 ∷ 1 ∷ 1 ∷ 1 ∷ []) }
    ∷ record { mode = Strict; sheet = on_wire_sheet; cells = 6; outcome = no_tree 14 5 }
    -- an empty room, in which conflicts that were blocked bear for free: a tree of strict mode alone
    ∷ record { mode = Published; sheet = empty_sheet; cells = 12; outcome = no_tree 14 10 }
    ∷ record { mode = Strict; sheet = empty_sheet; cells = 12; outcome = branch_over (0 ∷ 1 ∷ 9 ∷ 10 ∷ []) (1 ∷ 1 ∷ 0 ∷ 0 ∷ 0 ∷ 0 ∷ 0 ∷ 0 ∷ 0 ∷ 1 ∷ 1 ∷ 0 ∷ []) }
    ∷ []

abbrev AllCome : List SheetSample → Type 0
AllCome [] = Unit {0}
AllCome (s ∷ l) = Comes s.mode s.sheet (lengths s.cells) s.outcome × AllCome l

pub sheet-samples : AllCome rows
unfolding version_of limit_within sheets.usual bytes_by rest judged first_fault block_fault endpoint_fault sink_fault within sides_within costs_within config_within config_good ranges_good dearest buffers_good routeable searched graph_of moves_by price_of class_for bearing routeable_kind pos_of cell_of moves between stays neighbour beneath distance sooner least push offer expand trace take_one take_all first_state best_first growth_of grow_from grow_sink after_sink with_branch planted is_net_end repeaters_of far goes_before turn_of sink_at route_to_tree best_below tried_goal cheaper_route attempts after_search at_conflict searched_for blocked_air seen_kinds stands_in conductor upper_of_pair first_below first_pair at_clearance stair_conflict conflict_among with_byte clearance_of is_clearance branch_of all_but_last above repeaters.is_step repeaters.beside_on repeaters.neighbouring repeaters.cells_passing repeaters.tree_neighbours walks.meet walks.spread walks.parents_from repeaters.facing_by repeaters.straight repeaters.fits repeaters.latest repeaters.earliest repeaters.with_repeater repeaters.resume repeaters.candidate repeaters.stride repeaters.strides repeaters.run repeaters.reinforced along repeaters.planned repeaters.repeater_marks job_outcome of_block tabulated endings.source_end endings.sink_end endings.first_due endings.tap_of endings.fault_of endings.ends_of terminal_of approach_of realized_of outset-of.powers outset-of.solid_of outset-of.block_keepout outset-of.blocked_by outset-of.at_or_beneath outset-of.own_cell outset-of.blocked_at_outset facing_move ahead is_neighbour in_keepout directions
sheet-samples =
    let wire : (n x : ℕ) → Contents = λ n x. row n [] (wire_at x) in
    let by : (run tail : ℕ) → Contents = λ run tail. row_by run tail 10 [] (wire_at 9) in
    (comes-by Published (wire 20 8) refl refl refl refl refl refl refl refl refl, (comes-by Published (wire 20 9) refl refl refl refl refl refl refl refl refl, (comes-by Published (wire 20 12) refl refl refl refl refl refl refl refl refl, (comes-by Published (wire 20 13) refl refl refl refl refl refl refl refl refl, (comes-by Published (wire 20 16) refl refl refl refl refl refl refl refl refl, (comes-by Published (wire 10 9) refl refl refl refl refl refl refl refl refl, (comes-by Published (by 12 3) refl refl refl refl refl refl refl refl refl, (comes-by Published (by 4 3) refl refl refl refl refl refl refl refl refl, (comes-by Published (by 12 15) refl refl refl refl refl refl refl refl refl, (comes-by Published (by 1 1) refl refl refl refl refl refl refl refl refl, (comes-by Published (row 6 (record { node = 0; at = at 5 0 0; kind = solid; facing = 0 } ∷ []) (record { at = at 5 0 0; port = 1; facing = 4 })) refl refl refl refl refl refl refl refl refl, (comes-by Published on_wire refl refl refl refl refl refl refl refl refl, (comes-by Strict on_wire refl refl refl refl refl refl refl refl refl, (comes-by Published empty refl refl refl refl refl refl refl refl refl, (comes-by Strict empty refl refl refl refl refl refl refl refl refl, tt)))))))))))))))
