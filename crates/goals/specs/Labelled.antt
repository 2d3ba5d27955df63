-- What the contracts of the functions cite that try goals by their labels (crate `relaxed`): what a label says of a goal, which goals are left, and what is
-- kept while their labels stand where its path would. A label is stored one above the cost; 0 says that the goal need not be tried. Definitions alone;
-- that the answer is `route_to_tree` is shown in LabelledLaws.
use Rattle.std.specs.Prelude.{◌≡◌, ◌≢◌, Bool, true, false, List, ℕ, ◌+◌, ◌≤◌, ◌<◌, max, length, get_or, Option, Some, None, Result, Ok}
use Rattle.basics.specs.Tests.{either}
use Rattle.room.specs.declared.Room.{Room}
use Rattle.room.specs.declared.Pos.{Pos}
use Rattle.room.specs.declared.RouterConfig.{RouterConfig}
use Rattle.room.specs.Room.{volume, pos_of}
use Rattle.routing_resources.specs.Marks.{is_marked}
use Rattle.goals.specs.declared.Found.{Found}
use Rattle.goals.specs.declared.QueueFull.{QueueFull}
use Rattle.goals.specs.declared.Kept.{Kept}
use Rattle.goals.specs.Goals.{Site, Trial, found, tried_goal}
use Rattle.goals.specs.Trials.{Tried, length_of, Tells}
use Rattle.goals.specs.NeverFull.{NeverFull}
use Rattle.goals.specs.Passing.{least_at, bid_of, Holds, Yields, PassesOn, KeepsFirst}

-- its goal is a cell of the room
abbrev pub KeptInside : Room → Option Kept → Type 0
KeptInside R (Some k) = k.goal < volume R
KeptInside R None = Unit {0}

-- ---- the goals that are left

-- the label of one cell, by its mark and by a bound that its route has: none where it is not joinable or bids less than `low`
pub record LabelOf (C : RouterConfig) (R : Room) (from : Pos) (low cell mark bound r : ℕ) : Type 0 where
  pub none : r ≡ 0 → mark ≡ 1 → low ≤ bid_of C R from cell → bound ≡ 0
  pub some : r ≢ 0 → (r ≡ bound) × (mark ≡ 1)

-- of each cell below n
pub record LabelsOf (C : RouterConfig) (R : Room) (from : Pos) (low : ℕ) (joinable : List ℕ) (bound : ℕ → ℕ) (labels : List ℕ) (n : ℕ) : Type 0 where
  pub each : (v : ℕ) → v < n → LabelOf C R from low v (get_or joinable v 0) (bound v) (get_or labels v 0)

-- without labels the distance is the bound; it is never 0
unfoldable pub bound_at : RouterConfig → Room → Pos → ℕ → ℕ
bound_at C R from cell = max 1 (least_at C from (pos_of R cell))

-- the turn's labels, or where there are none the distance
abbrev pub bound_of : Bool → List ℕ → RouterConfig → Room → Pos → ℕ → ℕ
bound_of labelled known C R from cell = either labelled (get_or known cell 0) (bound_at C R from cell)

-- what the labels of a turn say: a goal of a bid of `low` or higher and without one has no route, any other is joinable and costs at least its label
pub record GoalLabels (S : Site) (start : ℕ) (blocked : List ℕ) (low : ℕ) (labels : List ℕ) : Type 0 where
  pub none : (goal : ℕ) → goal < volume S.room → get_or labels goal 0 ≡ 0 → is_marked S.joinable goal ≡ true
      → low ≤ bid_of S.config S.room (pos_of S.room start) goal → (path : List ℕ) (cost : ℕ) → tried_goal S start blocked goal ≢ found path cost
  pub least : (goal : ℕ) → goal < volume S.room → get_or labels goal 0 ≢ 0 → (path : List ℕ) (cost : ℕ) → tried_goal S start blocked goal ≡ found path cost
      → get_or labels goal 0 ≤ cost + 1
  pub joinable : (goal : ℕ) → goal < volume S.room → get_or labels goal 0 ≢ 0 → is_marked S.joinable goal ≡ true

-- the goals of bids below `low` are passed
pub record PassedBelow (S : Site) (start : ℕ) (blocked best : List ℕ) (K : Option Kept) (low : ℕ) : Type 0 where
  pub best-long : length best ≡ volume S.room
  pub never-full : NeverFull S start blocked
  pub held : Holds S start blocked best K
  pub lower : (other : ℕ) → other < volume S.room → is_marked S.joinable other ≡ true → bid_of S.config S.room (pos_of S.room start) other < low
      → Yields S start blocked other K

-- a goal without a label is passed, any other is left
pub record Left (S : Site) (start : ℕ) (blocked labels : List ℕ) (K : Option Kept) : Type 0 where
  pub yields : (goal : ℕ) → goal < volume S.room → get_or labels goal 0 ≡ 0 → Yields S start blocked goal K
  pub least : (goal : ℕ) → goal < volume S.room → get_or labels goal 0 ≢ 0 → (path : List ℕ) (cost : ℕ) → tried_goal S start blocked goal ≡ found path cost
      → get_or labels goal 0 ≤ cost + 1
  pub joinable : (goal : ℕ) → goal < volume S.room → get_or labels goal 0 ≢ 0 → is_marked S.joinable goal ≡ true

-- ---- what is kept of them

-- what is kept is what its goal came to, though its path stands nowhere
pub record HoldsGoal (S : Site) (start : ℕ) (blocked : List ℕ) (K : Option Kept) : Type 0 where
  pub its-path : List ℕ
  pub held : Holds S start blocked its-path K

-- what passing the goals that are left asks
pub record Passing (S : Site) (start : ℕ) (blocked labels : List ℕ) (K : Option Kept) : Type 0 where
  pub labels_long : length labels ≡ volume S.room
  pub never-full : NeverFull S start blocked
  pub held : HoldsGoal S start blocked K
  pub left : Left S start blocked labels K

-- every goal is passed
pub record AllPassed (S : Site) (start : ℕ) (blocked : List ℕ) (K : Option Kept) : Type 0 where
  pub held : HoldsGoal S start blocked K
  pub all : (other : ℕ) → other < volume S.room → Yields S start blocked other K

-- so it is with what passing them all gives, which is never that a queue was full
pub record PassesAll (S : Site) (start : ℕ) (blocked : List ℕ) (r : Result (Option Kept) QueueFull) : Type 0 where
  pub kept : Option Kept
  pub is : r ≡ Ok kept
  pub passed : AllPassed S start blocked kept

-- of what is kept and what this goal came to, the one that comes first
pub record KeepsGoal (K : Option Kept) (goal : ℕ) (tried : Option Found) (K' : Option Kept) : Type 0 where
  pub keeps : (path best : List ℕ) → length_of (Ok tried) ≤ length path → (best' : List ℕ) × KeepsFirst K goal (Ok tried) path best K' best'

-- what trying a goal asks
pub record Tryable (S : Site) (start : ℕ) (blocked : List ℕ) (goal : ℕ) : Type 0 where
  pub goal_in : goal < volume S.room
  pub marked : is_marked S.joinable goal ≡ true
  pub never-full : NeverFull S start blocked

-- the goal is passed, wherever the path stands of what is kept
pub record PassesGoal (S : Site) (start : ℕ) (blocked : List ℕ) (goal : ℕ) (K : Option Kept) (r : Result (Option Kept) QueueFull) : Type 0 where
  pub passes : (best : List ℕ) → Holds S start blocked best K → (best' : List ℕ) × PassesOn S start blocked goal K r best'

-- ---- the lowest label

-- of the labels below n this cell's is the lowest, the first of equal ones, if there is one
pub record LeastLabel (labels : List ℕ) (n : ℕ) (least : Option ℕ) : Type 0 where
  pub its_label : (cell : ℕ) → least ≡ Some cell → (get_or labels cell 0 ≢ 0) × (cell < n)
  pub lowest : (v : ℕ) → v < n → get_or labels v 0 ≢ 0 → (cell : ℕ) × (least ≡ Some cell) × (get_or labels cell 0 ≤ get_or labels v 0) × (v < cell → get_or labels cell 0 < get_or labels v 0)

-- whether a cell's label is lower than that of the lowest so far
pub record LowerLabel (labels : List ℕ) (lowest : Option ℕ) (cell : ℕ) (r : Bool) : Type 0 where
  pub lower : r ≡ true → (get_or labels cell 0 ≢ 0) × ((other : ℕ) → lowest ≡ Some other → get_or labels cell 0 < get_or labels other 0)
  pub other : r ≡ false → get_or labels cell 0 ≢ 0 → (other : ℕ) × (lowest ≡ Some other) × (get_or labels other 0 ≤ get_or labels cell 0)

-- ---- the path fetched

-- a path is copied: what was told with it is told with its copy
pub record Copies (tried : Tried) (path best' : List ℕ) : Type 0 where
  pub tells : (trial : Trial) → Tells trial tried path → Tells trial tried best'
