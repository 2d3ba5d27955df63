-- docs/RULES.md, The tree of one net, from the outset to the repeaters: a tree grows by one branch a sink. Definitions alone; their laws are in
-- the files named Laws.
use Rattle.std.specs.Prelude.{Bool, List, [], ℕ, zero, suc, ◌+◌, leb, eqb, length, get_or, set, replicate}
use Rattle.numbers.specs.Refusals.{queue_full_number, no_goal_number, branches_full_number}
use Rattle.basics.specs.Tests.{either}
use Rattle.basics.specs.Lists.{joined}
use Rattle.room.specs.declared.Room.{Room}
use Rattle.room.specs.declared.RouterConfig.{RouterConfig}
use Rattle.room.specs.Room.{volume}
use Rattle.ground.specs.declared.Mode.{Mode}
use Rattle.routing_resources.specs.Marks.{marked_by, no_marks}
use Rattle.routing_resources.specs.Resources.{is_clearance}
use Rattle.ends.specs.declared.Tap.{Tap}
use Rattle.ends.specs.declared.Taps.{Taps}
use Rattle.ends.specs.Ends.{no_tap}
use Rattle.geometry.specs.Geometry.{stands_in}
use Rattle.turns.specs.Turns.{far, sink_at}
use Rattle.goals.specs.Goals.{Site, Trial, found, failed, full, route_to_tree}
use Rattle.branches.specs.Branches.{branch_of, all_but_last}
use Rattle.repeaters.specs.NetEnds.{net_repeaters}

-- what a tree grows over: the room, the config, the mode, the run limit of its repeaters, the room's kinds, the places of the queue, the cells of the branch buffer, and the net's ends
pub record Plot : Type 0 where
  pub room : Room
  pub config : RouterConfig
  pub mode : Mode
  pub run : ℕ
  pub kinds : List ℕ
  pub places : ℕ
  pub buffer : ℕ
  pub source : ℕ
  pub taps : Taps

-- the tree so far: marks of its joinable, its occupied and its blocked cells, and its branches in sheet order, with [] for a sink that has none yet
pub record Tree : Type 0 where
  pub joinable : List ℕ
  pub occupied : List ℕ
  pub blocked : List ℕ
  pub branches : List (List ℕ)

-- what growing comes to: a tree, or a number with its detail
pub data Growth : Type 0 where
  grown : Tree → Growth
  stopped : (number detail : ℕ) → Growth

abbrev pub tap_at : Plot → ℕ → Tap
tap_at P k = get_or P.taps.taps k no_tap

-- marks of the source terminal alone
abbrev pub source_marks : Room → ℕ → List ℕ
source_marks R source = marked_by (eqb source) (no_marks (volume R))

-- the source terminal is joinable and occupied from the outset
unfoldable pub planted : Plot → List ℕ → Tree
planted P blocked = record {
  joinable = source_marks P.room P.source;
  occupied = source_marks P.room P.source;
  blocked = blocked;
  branches = replicate P.taps.count [];
}

-- what a sink is searched over, with these joinable cells
abbrev pub site_at : Plot → List ℕ → Site
site_at P joinable = record { room = P.room; config = P.config; mode = P.mode; kinds = P.kinds; joinable = joinable; places = P.places }

-- "All but the last cell become joinable; all become occupied; the branch's clearances become blocked."
unfoldable pub with_branch : Room → ℕ → List ℕ → Tree → Tree
with_branch R k branch T = record {
  joinable = marked_by (stands_in (all_but_last branch)) T.joinable;
  occupied = marked_by (stands_in branch) T.occupied;
  blocked = marked_by (is_clearance R branch) T.blocked;
  branches = set T.branches k branch;
}

-- the branch has place in the branch buffer behind those so far
abbrev pub fits_in : Plot → Tree → List ℕ → Bool
fits_in P T branch = leb (length (joined T.branches) + length branch) P.buffer

-- "then per sink 13 or 14, then 15"
unfoldable pub after_sink : Plot → ℕ → Tree → Trial → Growth
after_sink P k T (found path cost) =
    either (fits_in P T (branch_of (tap_at P k) path)) (grown (with_branch P.room k (branch_of (tap_at P k) path) T)) (stopped branches_full_number (k + 1))
after_sink P k T failed = stopped no_goal_number (tap_at P k).approach
after_sink P k T (full x) = stopped queue_full_number x

-- one sink's turn
unfoldable pub grow_sink : Plot → ℕ → Tree → Growth
grow_sink P k T = after_sink P k T (route_to_tree (site_at P T.joinable) (tap_at P k).approach T.blocked)

-- the sinks that are left have their turns only if none was refused so far
abbrev pub grow_on : (Tree → Growth) → Growth → Growth
grow_on rest (grown T) = rest T
grow_on rest (stopped number detail) = stopped number detail

-- the sink whose turn it is
abbrev pub sink_now : Plot → ℕ → ℕ
sink_now P turn = sink_at (far P.room P.source P.taps.taps) P.taps.count turn

-- so many turns, from this one on
unfoldable pub grow_from : ℕ → Plot → ℕ → Tree → Growth
grow_from zero P turn T = grown T
grow_from (suc n) P turn T =
    grow_on (grow_from n P (turn + 1)) (grow_sink P (sink_now P turn) T)

-- all turns, from the source terminal alone and the cells blocked at the outset
unfoldable pub growth_of : Plot → List ℕ → Growth
growth_of P blocked = grow_from P.taps.count P 0 (planted P blocked)

-- marks of the repeaters of a grown tree
unfoldable pub repeaters_of : Plot → Tree → List ℕ
repeaters_of P T = net_repeaters P.room P.run P.source P.taps T.branches
