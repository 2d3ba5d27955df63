-- Where number 13 can't occur, and how that is tested: what the contracts of the functions cite that pass over goals. Definitions alone; that the test
-- is enough is shown in FullLaws.
use Rattle.std.specs.Prelude.{◌≢◌, Bool, ◌&&◌, ◌||◌, List, ℕ, ◌+◌, ◌*◌, ◌≤◌, ◌<◌, leb, length, get_or}
use Rattle.room.specs.declared.RouterConfig.{RouterConfig}
use Rattle.room.specs.Room.{volume}
use Rattle.best_first.specs.Statements.{count_below}
use Rattle.room_search.specs.Routing.{can_enter}
use Rattle.goals.specs.Goals.{Site, full, tried_goal}

-- no goal of the sink comes to number 13
pub record NeverFull (S : Site) (start : ℕ) (blocked : List ℕ) : Type 0 where
  pub never : (goal : ℕ) → goal < volume S.room → (x : ℕ) → tried_goal S start blocked goal ≢ full x

-- costs at which a cell is pushed at most 5 times, and 5 places for each of so many cells
pub record FivePlaces (C : RouterConfig) (cells places : ℕ) : Type 0 where
  pub flat-least : 10 ≤ C.horizontal.0
  pub stair_least : 20 ≤ C.stair.0
  pub wide : 5 * cells ≤ places

-- how many of the first n cells can be entered, by their class bytes
abbrev pub enterable_count : ℕ → List ℕ → ℕ
enterable_count n classes = count_below n (λ v. can_enter (get_or classes v 0))

-- the test, with the class bytes of a sink's turn: 5 places for each cell but the start, or for each cell that can be entered, for the goal, which is an
-- end, and so may be entered, in its own searches alone, and for the cell that it may bear in these alone
unfoldable pub never_full : RouterConfig → List ℕ → ℕ → Bool
never_full C classes places =
    leb 10 C.horizontal.0
    && (leb 20 C.stair.0 && (leb (5 * length classes) (places + 5) || leb (5 * (enterable_count (length classes) classes + 2)) places))
