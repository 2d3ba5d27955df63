-- What the loop over the sinks' turns keeps: the tree so far, as the lent slices hold it.
use Rattle.std.specs.Prelude.{◌≡◌, ◌⊎◌, List, [], ◌∷◌, ℕ, ◌-◌, ◌≤◌, ◌<◌, length, get_or, drop, None}
use Rattle.basics.specs.Lists.{joined}
use Rattle.room.specs.declared.Room.{Room}
use Rattle.room.specs.Room.{Good, volume, Step}
use Rattle.room.specs.Units.{GoodConfig}
use Rattle.routing_resources.specs.Marks.{marked_by, is_marked, AllCells, Marks}
use Rattle.job_sheet.specs.Sheet.{max_sinks}
use Rattle.ends.specs.declared.Tap.{Tap}
use Rattle.ends.specs.Ends.{NetInside}
use Rattle.geometry.specs.Geometry.{stands_in, conflict_of, NoPair}
use Rattle.turns.specs.Turns.{far, turn_of}
use Rattle.goals.specs.Goals.{Site}
use Rattle.branches.specs.Branches.{SheetOrder, LengthsOf, longest_branch}
use Rattle.repeaters.specs.Masks.{Steps}
use Rattle.multinet.specs.Tree.{Plot, Tree, grown, planted, tap_at, grow_from, growth_of, source_marks}

-- a sink's terminal is its approach, or one step from it
abbrev pub Near : Room → Tap → Type 0
Near R t = (t.terminal ≡ t.approach) ⊎ Step R t.approach t.terminal

-- a plot that no number up to 9 refuses
pub record SoundPlot (P : Plot) : Type 0 where
  pub good : Good P.room
  pub config-good : GoodConfig P.room P.config
  pub kinds-long : length P.kinds ≡ volume P.room
  pub places-some : 0 < P.places
  pub net : NetInside P.room P.source P.taps
  pub near : (k : ℕ) → k < P.taps.count → Near P.room (tap_at P k)

-- what is known of a route that was found
pub record RouteKnown (S : Site) (start : ℕ) (path : List ℕ) : Type 0 where
  pub rest : List ℕ
  pub begins : path ≡ start ∷ rest
  pub steps : Steps S.room path
  pub short : length path ≤ volume S.room
  pub cells_in : AllCells S.room path
  pub free : conflict_of S.room S.kinds S.joinable path ≡ None

abbrev pub turn_in : Plot → ℕ → ℕ
turn_in P k = turn_of (far P.room P.source P.taps.taps) P.taps.count k

abbrev pub branch_in : Tree → ℕ → List ℕ
branch_in T k = get_or T.branches k []

-- a tree whose sinks from this turn on have no branch yet
pub record Sprouted (P : Plot) (turn : ℕ) (T : Tree) : Type 0 where
  pub occupied-is : T.occupied ≡ marked_by (stands_in (joined T.branches)) (source_marks P.room P.source)
  pub joinable-long : length T.joinable ≡ volume P.room
  pub joinable-marks : Marks T.joinable
  pub no_pair : NoPair P.room (is_marked T.joinable)
  pub blocked-long : length T.blocked ≡ volume P.room
  pub blocked-marks : Marks T.blocked
  pub count-is : length T.branches ≡ P.taps.count
  pub none_yet : (k : ℕ) → k < P.taps.count → turn ≤ turn_in P k → branch_in T k ≡ []
  pub cells_in : (k : ℕ) → k < P.taps.count → AllCells P.room (branch_in T k)
  pub steps : (k : ℕ) → k < P.taps.count → Steps P.room (branch_in T k)

-- the turns before have grown this tree, and those from here on come to what all of them come to from the outset; the buffer has the branches in sheet order, and behind them what it had
pub record Growing (P : Plot) (outset start-buffer : List ℕ) (turn : ℕ) (joinable blocked buffer each : List ℕ) : Type 0 where
  pub tree : Tree
  pub joinable-is : joinable ≡ tree.joinable
  pub blocked-is : blocked ≡ tree.blocked
  pub so_far : grow_from turn P 0 (planted P outset) ≡ grown tree
  pub same : grow_from (P.taps.count - turn) P turn tree ≡ growth_of P outset
  pub sprouted : Sprouted P turn tree
  pub in_order : SheetOrder tree.branches (length (joined tree.branches)) buffer
  pub behind : drop (length (joined tree.branches)) buffer ≡ drop (length (joined tree.branches)) start-buffer
  pub buffer-long : length buffer ≡ P.buffer
  pub lengths-are : LengthsOf tree.branches each
  pub each_long : length each ≡ max_sinks
  pub each-short : (i : ℕ) → i < max_sinks → get_or each i 0 ≤ longest_branch
  pub each_none : (i : ℕ) → P.taps.count ≤ i → get_or each i 0 ≡ 0
