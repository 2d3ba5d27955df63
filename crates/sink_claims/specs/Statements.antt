-- "Why couldn't this sink be reached?" What each verdict and each byte means, at the turn of sink k, the tree being T then: definitions only, once over both
-- modes. The theorems are in the file Theorems beside it.
use Rattle.std.specs.Prelude.{◌≡◌, ◌≢◌, ◌↔◌, Bool, true, false, not, ◌&&◌, List, [], ◌∷◌, ℕ, ◌+◌, ◌-◌, ◌*◌, ◌/◌, ◌%◌, ◌≤◌, ◌<◌, eqb, get_or, Option, Some, None, Err}
use Rattle.numbers.specs.Refusals.{queue_full_number, no_goal_number}
use Rattle.basics.specs.Lists.{any}
use Rattle.room.specs.declared.RouterConfig.{RouterConfig}
use Rattle.room.specs.Room.{volume, pos_of, apart, beneath, holds_at, move_at, neighbour}
use Rattle.room.specs.Units.{air, redstone_wire}
use Rattle.ground.specs.declared.Mode.TheVariants.{Strict}
use Rattle.room_search.specs.Routing.{kind_at, routeable_kind, bearing}
use Rattle.routing.specs.declared.Lengths.{Lengths}
use Rattle.routing.specs.declared.Unrouted.TheVariants.{NotRouteable}
use Rattle.routing.specs.Answers.{input, fit_answer}
use Rattle.routing_resources.specs.Marks.{is_marked}
use Rattle.job_sheet.specs.Sheet.{Contents}
use Rattle.outset.specs.Outset.{stands_at, block_keepout, own_cell}
use Rattle.blocked_world.specs.BlockedWorld.{seen_kinds}
use Rattle.goals.specs.Goals.{Site, found, attempts, max_attempts, route_to_tree, site_task}
use Rattle.multinet.specs.Tree.{Plot, Tree, site_at}
use Rattle.flood.specs.Walls.{allowed, outside}
use Rattle.why.specs.Why.{taken, bad_support}
use Rattle.causes.specs.Causes.{conductor_bit, keepout_bit, clearance_bit, terminal_bit, reserved_bit, block_bit, own_bit, beside_conductor, cleared_by}
use Rattle.why_tree.specs.WhyTree.{exempt, kept_free, strictly, is_kept_free, support_kept_free, approach_taken, is_shut_in, only_conflicts, cut_short, sink_approach}
use Rattle.demands.specs.Lawful.{LawfulWay}
use Rattle.demands.specs.Statements.{Priced, NoLawfulWay}
use Rattle.demands.specs.TreeStatements.{GoalEnds}

-- what the sink is searched over, at any costs, node limit and places of the queue
abbrev pub site_with : Plot → Tree → RouterConfig → ℕ → Site
site_with P T C places =
    record { room = P.room; config = C; mode = P.mode; kinds = P.kinds; joinable = T.joinable; places = places }

-- what is blocked stays so: an attempt for one goal blocks cells besides those of the tree, and frees none
pub record BlocksMore (blocked later : List ℕ) : Type 0 where
  pub still : (v : ℕ) → is_marked blocked v ≡ true → is_marked later v ≡ true

-- ---- *shut in*

-- "for each joinable cell, at any costs, limits and attempts, no lawful way exists from this sink's approach in this tree"
pub record ShutIn (P : Plot) (T : Tree) (k : ℕ) : Type 0 where
  -- no search for a joinable cell has a lawful way: neither its first, which sees what the tree has blocked, nor any that sees more cells blocked
  pub no_way : (goal : ℕ) → goal < volume P.room → is_marked T.joinable goal ≡ true → (C : RouterConfig) (places : ℕ) (later : List ℕ) → BlocksMore T.blocked later
      → NoLawfulWay (site_task (site_with P T C places) later (sink_approach P k) goal)
  -- so however many attempts are made for it, none finds a route
  pub no_attempt : (goal : ℕ) → goal < volume P.room → is_marked T.joinable goal ≡ true → (C : RouterConfig) (places n : ℕ) (path : List ℕ) (cost : ℕ)
      → attempts n (site_with P T C places) (sink_approach P k) goal T.blocked ≢ found path cost
  -- and the sink has no route to this tree
  pub no_route : (C : RouterConfig) (places : ℕ) (path : List ℕ) (cost : ℕ)
      → route_to_tree (site_with P T C places) (sink_approach P k) T.blocked ≢ found path cost

-- ---- *approach taken*

-- the approach holds a block, and each search for any goal, whatever is blocked, ends at once with number 10 and the approach
pub record ApproachTaken (P : Plot) (k : ℕ) : Type 0 where
  pub no_air : get_or P.kinds (sink_approach P k) air ≢ air
  pub no_wire : get_or P.kinds (sink_approach P k) air ≢ redstone_wire
  pub number_10 : (goal : ℕ) (C : RouterConfig) (blocked : List ℕ) (L : Lengths)
      → fit_answer (input P.room C (seen_kinds P.mode P.kinds blocked (sink_approach P k) goal) (sink_approach P k) goal L) ≡ Err (NotRouteable (sink_approach P k))
  pub no_way : (T : Tree) (goal : ℕ) (C : RouterConfig) (places : ℕ) (blocked : List ℕ)
      → NoLawfulWay (site_task (site_with P T C places) blocked (sink_approach P k) goal)

-- ---- *conflicts*

-- at costs of 10 and 20 or more, with a node limit that no search passes, each joinable cell has its reason: conflicts were blocked until no lawful way was left,
-- or one could not be blocked, or the attempts were over. No more is said: another way may be free of conflicts
pub record OnlyConflicts (P : Plot) (T : Tree) (k : ℕ) : Type 0 where
  pub priced : Priced P.config
  pub limit-enough : 5 * (volume P.room - 1) + 1 ≤ P.config.limit.0
  pub each : (goal : ℕ) → goal < volume P.room → is_marked T.joinable goal ≡ true
      → GoalEnds (site_at P T.joinable) (sink_approach P k) goal max_attempts T.blocked

-- ---- which of them is said

-- the verdict of sink k where the growth stops at its turn with this number. *Cut short* says nothing, and nothing else is said of 13
pub record VerdictMeans (P : Plot) (T : Tree) (k number verdict : ℕ) : Type 0 where
  pub as_approach_taken : verdict ≡ approach_taken → (number ≡ no_goal_number) × ApproachTaken P k
  pub as_shut_in : verdict ≡ is_shut_in → (number ≡ no_goal_number) × ShutIn P T k
  pub as_conflicts : verdict ≡ only_conflicts → (number ≡ no_goal_number) × OnlyConflicts P T k
  pub as_queue_full : number ≡ queue_full_number → verdict ≡ cut_short
  pub some : approach_taken ≤ verdict
  pub no_other : verdict ≤ cut_short

-- ---- what `reached` and `walls` say of a sink that is shut in

-- may cell v hold wire, the approach a and every joinable cell being exempt; does what is beneath it bear nothing; is it kept free, blocked Air that is not
-- exempt; and, in strict mode, is what is beneath it
abbrev pub may_hold : Plot → Tree → ℕ → ℕ → Bool
may_hold P T a v = routeable_kind (exempt T.joinable a v) (get_or P.kinds v air)

abbrev pub bears_none : Plot → ℕ → Bool
bears_none P v = eqb (bearing (kind_at P.kinds (beneath P.room v))) 0

abbrev pub kept_in : Plot → Tree → ℕ → ℕ → Bool
kept_in P T a v = kept_free P.kinds T.blocked T.joinable a v

abbrev pub rests_on_kept : Plot → Tree → ℕ → ℕ → Bool
rests_on_kept P T a v = strictly P.mode (holds_at (kept_in P T a) (beneath P.room v))

-- nothing stands against entering it
pub record OpenCell (P : Plot) (T : Tree) (a v : ℕ) : Type 0 where
  pub holds : may_hold P T a v ≡ true
  pub bears : bears_none P v ≡ false
  pub not_kept : kept_in P T a v ≡ false
  pub not_on_kept : rests_on_kept P T a v ≡ false

-- one step from u to v: a neighbour aside, at most one higher or lower, against which nothing stands
pub record OpenStep (P : Plot) (T : Tree) (a u v : ℕ) : Type 0 where
  pub to_in : v < volume P.room
  pub aside : apart (pos_of P.room u).x (pos_of P.room v).x + apart (pos_of P.room u).z (pos_of P.room v).z ≡ 1
  pub rise : apart (pos_of P.room u).y (pos_of P.room v).y ≤ 1
  pub enters : OpenCell P T a v

-- the cells after u lead from u to t by such steps
abbrev pub OpenSteps : Plot → Tree → ℕ → ℕ → List ℕ → ℕ → Type 0
OpenSteps P T a u [] t = u ≡ t
OpenSteps P T a u (v ∷ l) t = OpenStep P T a u v × OpenSteps P T a v l t

-- wire gets from the approach to v
pub record WireGetsTo (P : Plot) (T : Tree) (a v : ℕ) : Type 0 where
  pub cells : List ℕ
  pub steps : OpenSteps P T a a cells v

-- what a byte says of entering cell v: 0 exactly where nothing stands against it, else the least reason that holds
pub record SaysOf (P : Plot) (T : Tree) (a v byte : ℕ) : Type 0 where
  pub as_allowed : (byte ≡ allowed) ↔ OpenCell P T a v
  pub as_taken : (byte ≡ taken) ↔ (may_hold P T a v ≡ false)
  pub as_bad_support : (byte ≡ bad_support) ↔ ((may_hold P T a v ≡ true) × (bears_none P v ≡ true))
  pub as_kept_free : (byte ≡ is_kept_free) ↔ ((may_hold P T a v ≡ true) × (bears_none P v ≡ false) × (kept_in P T a v ≡ true))
  pub as_on_kept_free : (byte ≡ support_kept_free)
      ↔ ((may_hold P T a v ≡ true) × (bears_none P v ≡ false) × (kept_in P T a v ≡ false) × (rests_on_kept P T a v ≡ true))
  pub not_outside : byte ≢ outside
  pub no_other : byte ≤ support_kept_free

-- and of a move, by where it leads
abbrev pub SaysAt : Plot → Tree → ℕ → Option ℕ → ℕ → Type 0
SaysAt P T a (Some v) byte = SaysOf P T a v byte
SaysAt P T a None byte = byte ≡ outside

-- a mark a cell, and twelve bytes a cell, from the approach a on
pub record WallsSay (P : Plot) (T : Tree) (a : ℕ) (reached walls : List ℕ) : Type 0 where
  -- marked are exactly the cells that wire gets to
  pub marked : (v : ℕ) → v < volume P.room → (get_or reached v 0 ≡ 1) ↔ WireGetsTo P T a v
  pub marks-small : (v : ℕ) → v < volume P.room → get_or reached v 0 ≤ 1
  -- each byte of a cell marked says what stands against its move, the bytes of any other are 0
  pub says-why : (u i : ℕ) → u < volume P.room → i < 12 → get_or reached u 0 ≡ 1 → SaysAt P T a (neighbour P.room u (move_at i)) (get_or walls (12 * u + i) 0)
  pub unreached : (u i : ℕ) → u < volume P.room → i < 12 → get_or reached u 0 ≡ 0 → get_or walls (12 * u + i) 0 ≡ 0
  -- the approach is among them, no joinable cell is, and no such step leaves them
  pub approach_in : get_or reached a 0 ≡ 1
  pub joinable-out : (goal : ℕ) → goal < volume P.room → is_marked T.joinable goal ≡ true → get_or reached goal 0 ≡ 0
  pub none-leaves : (u v : ℕ) → u < volume P.room → get_or reached u 0 ≡ 1 → OpenStep P T a u v → get_or reached v 0 ≡ 1

-- ---- of number 14, which verdict is given

-- the first that holds: the approach is neither Air nor RedstoneWire; wire gets to no joinable cell; the costs are 10 and 20 or more and no search passes the node
-- limit; else the search was cut short
pub record VerdictExactly (P : Plot) (T : Tree) (k verdict : ℕ) : Type 0 where
  pub taken-exactly : (verdict ≡ approach_taken) ↔ ((get_or P.kinds (sink_approach P k) air ≢ air) × (get_or P.kinds (sink_approach P k) air ≢ redstone_wire))
  pub shut_in_exactly : (verdict ≡ is_shut_in)
      ↔ ((verdict ≢ approach_taken) × ((goal : ℕ) → goal < volume P.room → is_marked T.joinable goal ≡ true → WireGetsTo P T (sink_approach P k) goal → ⊥))
  pub conflicts-exactly : (verdict ≡ only_conflicts)
      ↔ ((verdict ≢ approach_taken) × (verdict ≢ is_shut_in) × Priced P.config × (5 * (volume P.room - 1) + 1 ≤ P.config.limit.0))

-- ---- of a sink that is not shut in

-- the first search for some joinable cell has a lawful way, at any costs; whether it is free of conflicts is not said
pub record SomeWay (P : Plot) (T : Tree) (k : ℕ) : Type 0 where
  pub goal : ℕ
  pub goal_in : goal < volume P.room
  pub joins : is_marked T.joinable goal ≡ true
  pub after : List ℕ
  pub way : (C : RouterConfig) (places : ℕ) → LawfulWay (site_task (site_with P T C places) T.blocked (sink_approach P k) goal) after

-- in strict mode that is said where no joinable cell is blocked itself, as such a cell might bear one of the way: it is exempt only from the search for it
abbrev pub JoinableUnblocked : Plot → Tree → Type 0
JoinableUnblocked P T = P.mode ≡ Strict → (v : ℕ) → is_marked T.joinable v ≡ true → is_marked T.blocked v ≡ false

-- ---- what `causes` says

-- a byte has a bit, which is a power of two
abbrev pub has_bit : ℕ → ℕ → Bool
has_bit byte weight = eqb (byte / weight % 2) 1

-- "one bit a reason, each set exactly where it holds; none of the first six on the net's own cells"
pub record CauseTrue (kinds nodes : List ℕ) (J : Contents) (P : Plot) (T : Tree) (v byte : ℕ) : Type 0 where
  pub as_conductor : has_bit byte conductor_bit ≡ not (own_cell J.room P.source P.taps v) && any (stands_at J.room v) J.conductors
  pub as_keepout : has_bit byte keepout_bit ≡ not (own_cell J.room P.source P.taps v) && any (beside_conductor J.room v) J.conductors
  pub as_clearance : has_bit byte clearance_bit ≡ not (own_cell J.room P.source P.taps v) && any (stands_at J.room v) J.clearances
  pub as_terminal : has_bit byte terminal_bit ≡ not (own_cell J.room P.source P.taps v) && any (stands_at J.room v) J.terminals
  pub as_reserved : has_bit byte reserved_bit ≡ not (own_cell J.room P.source P.taps v) && any (stands_at J.room v) J.reserved
  pub as_block : has_bit byte block_bit ≡ not (own_cell J.room P.source P.taps v) && any (block_keepout J.room kinds nodes v) J.blocks
  -- a clearance of the branches that the net has so far, whatever else holds
  pub as_own : has_bit byte own_bit ≡ any (cleared_by J.room v) T.branches
  pub no_other : byte < 128
  -- "every blocked cell has one", and no other cell
  pub blocked-exactly : is_marked T.blocked v ≡ not (eqb byte 0)

-- one byte a cell
pub record CausesSay (kinds nodes : List ℕ) (J : Contents) (P : Plot) (T : Tree) (causes : List ℕ) : Type 0 where
  pub each : (v : ℕ) → v < volume J.room → CauseTrue kinds nodes J P T v (get_or causes v 0)
