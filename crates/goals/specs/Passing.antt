-- What the contracts of the functions cite that pass over goals that can't win: what any route costs at least, in what order
-- routes come, what is kept of the goals that are done, and what a goal that is passed leaves. Definitions alone; that the answer is `route_to_tree` is shown in PassingLaws.
use Rattle.std.specs.Prelude.{◌≡◌, ◌≢◌, Bool, true, false, List, ℕ, ◌+◌, ◌-◌, ◌*◌, ◌^◌, ◌≤◌, ◌<◌, min, eqb, ltb, length, take, Option, Some, None, Result, Ok}
use Rattle.basics.specs.Tests.{either}
use Rattle.room.specs.declared.Room.{Room}
use Rattle.room.specs.declared.Pos.{Pos}
use Rattle.room.specs.declared.RouterConfig.{RouterConfig}
use Rattle.room.specs.Room.{max_volume, volume, pos_of, apart}
use Rattle.routing_resources.specs.Marks.{is_marked}
use Rattle.goals.specs.declared.Found.{Found}
use Rattle.goals.specs.declared.QueueFull.{QueueFull}
use Rattle.goals.specs.declared.Kept.{Kept}
use Rattle.goals.specs.declared.Bid.{Bid}
use Rattle.goals.specs.Goals.{Site, found, full, tried_goal}
use Rattle.goals.specs.Trials.{Tried, Tells}
use Rattle.goals.specs.NeverFull.{NeverFull}

-- ---- what any route costs at least

-- so far up or down and so far aside: a stair for each cell up or down, and the cheaper step for what is then left
abbrev pub least_for : ℕ → ℕ → ℕ → ℕ → ℕ
least_for stair cheaper up aside = up * stair + (aside - up) * cheaper

unfoldable pub least_at : RouterConfig → Pos → Pos → ℕ
least_at C p q =
    least_for C.stair.0 (min C.horizontal.0 C.stair.0) (apart p.y q.y) (apart p.x q.x + apart p.z q.z)

unfoldable pub least_cost : Room → RouterConfig → ℕ → ℕ → ℕ
least_cost R C a b = least_at C (pos_of R a) (pos_of R b)

-- ---- the order, and what is kept

-- a route of this cost to this goal comes before what is kept: it is cheaper, or as cheap and its goal has the lower number
abbrev pub precedes : ℕ → ℕ → Option Kept → Bool
precedes cost goal (Some k) = either (eqb cost k.found.cost.0) (ltb goal k.goal) (ltb cost k.found.cost.0)
precedes cost goal None = true

-- the route that is kept, if there is one
abbrev pub route_of : Option Kept → Option Found
route_of (Some k) = Some k.found
route_of None = None

-- goals are tried by their bids: the least that a route to them can cost and, of equal ones, their number. Both as one number
unfoldable pub bid_of : RouterConfig → Room → Pos → ℕ → ℕ
bid_of C R from goal = least_at C from (pos_of R goal) * max_volume + goal

-- above every bid
abbrev pub no_bid : ℕ
no_bid = 2 ^ 32 * max_volume

-- from this bid on no goal comes before what is kept
abbrev pub bid_to_beat : Option Kept → ℕ
bid_to_beat (Some k) = k.found.cost.0 * max_volume + k.goal
bid_to_beat None = no_bid

-- its goal is a cell's number
abbrev pub SmallKept : Option Kept → Type 0
SmallKept (Some k) = k.goal < max_volume
SmallKept None = Unit {0}

-- what is kept is what its goal came to, with its path at the front of the buffer
abbrev pub HoldsRoute : Site → ℕ → List ℕ → List ℕ → Option Kept → Type 0
HoldsRoute S start blocked best (Some k) =
    (k.goal < volume S.room) × (tried_goal S start blocked k.goal ≡ found (take k.found.length best) k.found.cost.0) × (k.found.length ≤ length best)
HoldsRoute S start blocked best None = Unit {0}

pub record Holds (S : Site) (start : ℕ) (blocked best : List ℕ) (K : Option Kept) : Type 0 where
  pub holds : HoldsRoute S start blocked best K

-- a route of this cost to another goal does not come before what is kept
abbrev pub NotBefore : Option Kept → ℕ → ℕ → Type 0
NotBefore (Some k) cost' other = (k.found.cost.0 ≤ cost') × (other < k.goal → k.found.cost.0 < cost')
NotBefore None cost' other = ⊥

-- the other goal's route, if it has one, does not come before what is kept
pub record Yields (S : Site) (start : ℕ) (blocked : List ℕ) (other : ℕ) (K : Option Kept) : Type 0 where
  pub yields : (path : List ℕ) (cost : ℕ) → tried_goal S start blocked other ≡ found path cost → NotBefore K cost other

-- the goal is passed: of it, and of every goal that was passed before, none comes before what is kept now
pub record Passes (S : Site) (start : ℕ) (blocked : List ℕ) (goal : ℕ) (K K' : Option Kept) (best' : List ℕ) : Type 0 where
  pub held : Holds S start blocked best' K'
  pub yields : Yields S start blocked goal K'
  pub still : (other : ℕ) → Yields S start blocked other K → Yields S start blocked other K'

-- so it is with what a pass gives, which is never that a queue was full
pub record PassesOn (S : Site) (start : ℕ) (blocked : List ℕ) (goal : ℕ) (K : Option Kept) (r : Result (Option Kept) QueueFull) (best' : List ℕ) : Type 0 where
  pub kept : Option Kept
  pub is : r ≡ Ok kept
  pub passes : Passes S start blocked goal K kept best'

-- of what is kept, with its path in `best`, and what this goal came to, with its path in `path`, the one that comes first, with its path in `best`
pub record KeepsFirst (K : Option Kept) (goal : ℕ) (tried : Tried) (path best : List ℕ) (K' : Option Kept) (best' : List ℕ) : Type 0 where
  pub keeps : (S : Site) (start : ℕ) (blocked : List ℕ) → goal < volume S.room → Holds S start blocked best K → Tells (tried_goal S start blocked goal) tried path
      → ((x : ℕ) → tried_goal S start blocked goal ≢ full x) → Passes S start blocked goal K K' best'

-- what passing a goal asks
pub record Passable (S : Site) (start : ℕ) (blocked best : List ℕ) (goal : ℕ) (K : Option Kept) : Type 0 where
  pub goal_in : goal < volume S.room
  pub marked : is_marked S.joinable goal ≡ true
  pub best-long : length best ≡ volume S.room
  pub never-full : NeverFull S start blocked
  pub held : Holds S start blocked best K

-- ---- whose bid is next

-- the first marked cell from here on, or none where all from here on are unmarked
pub record NextMarked (marks : List ℕ) (from : ℕ) (r : Option ℕ) : Type 0 where
  pub marked : (cell : ℕ) → r ≡ Some cell → (from ≤ cell) × (cell < length marks) × (is_marked marks cell ≡ true)
  pub first : (cell : ℕ) → r ≡ Some cell → (other : ℕ) → from ≤ other → other < cell → is_marked marks other ≡ false
  pub none : r ≡ None → (other : ℕ) → from ≤ other → other < length marks → is_marked marks other ≡ false

-- of the joinable cells below n whose bids are `low` or higher: the lowest bid, its goal, and what the others bid at least, which is `end` or lower
pub record LowestBid (C : RouterConfig) (R : Room) (joinable : List ℕ) (from : Pos) (low end n : ℕ) (t : Bid) : Type 0 where
  pub least : (other : ℕ) → other < n → is_marked joinable other ≡ true → low ≤ bid_of C R from other → t.bid ≤ bid_of C R from other
  pub others : (other : ℕ) → other < n → is_marked joinable other ≡ true → low ≤ bid_of C R from other → other ≢ t.goal → t.second ≤ bid_of C R from other
  pub its_bid : (t.bid ≡ bid_of C R from t.goal) × (is_marked joinable t.goal ≡ true) × (low ≤ t.bid)
  pub below : (t.goal < n) × (t.bid < t.second)
  pub within : t.second ≤ end

-- so it is where a goal bids before `end`; where none does, every bid from `low` on is `end` or higher
pub record NextBid (C : RouterConfig) (R : Room) (joinable : List ℕ) (from : Pos) (low end n : ℕ) (t : Option Bid) : Type 0 where
  pub lowest : (b : Bid) → t ≡ Some b → LowestBid C R joinable from low end n b
  pub ended : t ≡ None → (other : ℕ) → other < n → is_marked joinable other ≡ true → low ≤ bid_of C R from other → end ≤ bid_of C R from other

-- one goal more
pub record LowerBid (C : RouterConfig) (R : Room) (from : Pos) (low end n : ℕ) (t t' : Option Bid) : Type 0 where
  pub lowers : (joinable : List ℕ) → is_marked joinable n ≡ true → NextBid C R joinable from low end n t → NextBid C R joinable from low end (n + 1) t'
