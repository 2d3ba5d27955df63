-- "Why couldn't this sink be reached?" At the turn of a sink that no goal was found for: where wire gets to from its approach, what stands against each move
-- out of those cells, and what may be said. Definitions alone; their laws are in the files named Laws.
use Rattle.std.specs.Prelude.{◌≡◌, Bool, true, false, not, ◌&&◌, ◌||◌, List, ℕ, ◌+◌, ◌-◌, ◌*◌, ◌<◌, leb, eqb, get_or}
use Rattle.numbers.specs.Refusals.{no_goal_number}
use Rattle.basics.specs.Tests.{either}
use Rattle.basics.specs.Lists.{all_below}
use Rattle.room.specs.declared.Room.{Room}
use Rattle.room.specs.declared.RouterConfig.{RouterConfig}
use Rattle.room.specs.Room.{volume, beneath, holds_at}
use Rattle.room.specs.Units.{air}
use Rattle.ground.specs.declared.Ground.{Ground}
use Rattle.ground.specs.declared.Mode.{Mode}
use Rattle.ground.specs.declared.Mode.TheVariants.{Published, Strict}
use Rattle.room_search.specs.Routing.{kind_at, routeable_kind}
use Rattle.routing_resources.specs.Marks.{is_marked}
use Rattle.flood.specs.Walls.{allowed, reached_by}
use Rattle.why.specs.Why.{obstacle_for}
use Rattle.multinet.specs.Tree.{Plot, Tree, grown, stopped, tap_at, planted, sink_now, grow_sink, grow_from}

-- ---- what stands against entering a cell, where any joinable cell may be the goal

-- "the approach and every joinable cell are exempt from blocking and may hold RedstoneWire"
abbrev pub exempt : List ℕ → ℕ → ℕ → Bool
exempt joinable approach v = eqb v approach || is_marked joinable v

-- blocked Air that is not exempt
unfoldable pub kept_free : List ℕ → List ℕ → List ℕ → ℕ → ℕ → Bool
kept_free kinds blocked joinable approach v = eqb (get_or kinds v air) air && (is_marked blocked v && not (exempt joinable approach v))

-- in strict mode alone
abbrev pub strictly : Mode → Bool → Bool
strictly Published holds = false
strictly Strict holds = holds

-- "4 kept free, 5 its support is kept free"
abbrev pub is_kept_free : ℕ
is_kept_free = 4

abbrev pub support_kept_free : ℕ
support_kept_free = 5

-- what blocking has against a cell, by whether it is kept free and whether what is beneath it is
abbrev pub blocking_for : Mode → Bool → Bool → ℕ
blocking_for mode free below = either free is_kept_free (either (strictly mode below) support_kept_free allowed)

-- of several the least: taken or a bad support, then what blocking has against it
abbrev pub least_of : ℕ → ℕ → ℕ
least_of first second = either (eqb first allowed) second first

unfoldable pub tree_obstacle : Mode → Room → List ℕ → List ℕ → List ℕ → ℕ → ℕ → ℕ
tree_obstacle mode R kinds blocked joinable approach v =
    least_of (obstacle_for (exempt joinable approach v) (get_or kinds v air) (kind_at kinds (beneath R v)))
    (blocking_for mode (kept_free kinds blocked joinable approach v) (holds_at (kept_free kinds blocked joinable approach) (beneath R v)))

-- ---- what may be said

-- "approach taken (1), shut in (2), conflicts (3), cut short (4)"
abbrev pub approach_taken : ℕ
approach_taken = 1

abbrev pub is_shut_in : ℕ
is_shut_in = 2

abbrev pub only_conflicts : ℕ
only_conflicts = 3

abbrev pub cut_short : ℕ
cut_short = 4

-- no joinable cell is reached
unfoldable pub reaches_none : Room → (ℕ → Bool) → List ℕ → Bool
reaches_none R reached joinable = all_below (λ v. not (reached v && is_marked joinable v)) (volume R)

-- costs at which estimates hold, and a node limit that no search passes
unfoldable pub ample : Room → RouterConfig → Bool
ample R C = leb 10 C.horizontal.0 && (leb 20 C.stair.0 && leb (5 * (volume R - 1) + 1) C.limit.0)

-- which cells are reached from the approach
abbrev pub reached_from : Ground → List ℕ → List ℕ → List ℕ → ℕ → ℕ → Bool
reached_from G kinds blocked joinable approach =
    reached_by G.room (tree_obstacle G.mode G.room kinds blocked joinable approach) approach

-- where neither the approach nor walls are to blame: "conflicts: .. a flat step of 10 or more, a stair of 20 or more, and a node limit of at least .."; "cut
-- short: any other 14"
abbrev pub open_verdict : Room → RouterConfig → ℕ
open_verdict R C = either (ample R C) only_conflicts cut_short

-- of number 14: "approach taken: a is neither Air nor RedstoneWire"; "shut in"; else one of those
unfoldable pub verdict_for : Ground → List ℕ → List ℕ → List ℕ → ℕ → ℕ
verdict_for G kinds blocked joinable approach =
    either (routeable_kind true (get_or kinds approach air))
    (either (reaches_none G.room (reached_from G kinds blocked joinable approach) joinable) is_shut_in (open_verdict G.room G.config))
    approach_taken

-- ---- at a sink's turn

abbrev pub sink_approach : Plot → ℕ → ℕ
sink_approach P k = (tap_at P k).approach

abbrev pub ground_of : Plot → Ground
ground_of P = record { room = P.room; config = P.config; mode = P.mode; run = P.run }

-- ".. and 13"
abbrev pub verdict_of : Plot → Tree → ℕ → ℕ → ℕ
verdict_of P T k number = either (eqb number no_goal_number) (verdict_for (ground_of P) P.kinds T.blocked T.joinable (sink_approach P k)) cut_short

-- the turn at which growing stops with a number, and the tree as it is then
pub record StopsThere (P : Plot) (outset : List ℕ) (turn : ℕ) (T : Tree) (number detail : ℕ) : Type 0 where
  pub turn_in_lem : turn < P.taps.count
  pub so_far : grow_from turn P 0 (planted P outset) ≡ grown T
  pub stops : grow_sink P (sink_now P turn) T ≡ stopped number detail
