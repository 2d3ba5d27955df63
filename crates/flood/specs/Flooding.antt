-- A flood as the code holds it: a byte a cell that marks the cells reached, which stand in a line in the order in which they were reached; those from
-- `head` on wait to be visited.
use Rattle.std.specs.Prelude.{◌≡◌, ◌⊎◌, ◌↔◌, List, ℕ, ◌≤◌, ◌<◌, length, get_or, Option, Some}
use Rattle.basics.specs.Lists.{In}
use Rattle.room.specs.declared.Room.{Room}
use Rattle.room.specs.Room.{move_at, neighbour}
use Rattle.best_first.specs.ListsAfterSet.{nonzeros}
use Rattle.walk.specs.Chains.{Chained}
use Rattle.flood.specs.Walls.{allowed}

-- v stands in the line's first `count`
pub record Spot (line : List ℕ) (count v : ℕ) : Type 0 where
  pub place : ℕ
  pub within : place < count
  pub is : get_or line place 0 ≡ v

-- the cells marked stand in the line, each once, and no others
pub record Held (marks line : List ℕ) (count : ℕ) : Type 0 where
  pub line-long : length line ≡ length marks
  pub counted : nonzeros marks ≡ count
  pub small : (v : ℕ) → get_or marks v 0 ≤ 1
  pub lined : (v : ℕ) → 0 < get_or marks v 0 → Spot line count v
  pub marked : (i : ℕ) → i < count → 0 < get_or marks (get_or line i 0) 0

-- the cells of P were met: they are marked now, and no others but those marked before
pub record Met (P : ℕ → Type 0) (marks line : List ℕ) (count : ℕ) (marks' line' : List ℕ) (count' : ℕ) : Type 0 where
  pub held : Held marks' line' count'
  pub long : length marks' ≡ length marks
  pub on : count ≤ count'
  pub same : (i : ℕ) → i < count → get_or line' i 0 ≡ get_or line i 0
  pub kept : (v : ℕ) → 0 < get_or marks v 0 → 0 < get_or marks' v 0
  pub all : (v : ℕ) → P v → 0 < get_or marks' v 0
  pub only : (v : ℕ) → 0 < get_or marks' v 0 → (0 < get_or marks v 0) ⊎ P v

-- w is the cell at a place, and nothing stands against it
pub record OpenAt (obstacle : ℕ → ℕ) (place : Option ℕ) (w : ℕ) : Type 0 where
  pub is : place ≡ Some w
  pub free : obstacle w ≡ allowed

-- one of the first n moves leads from u to w, and nothing stands against it
pub record OpenBy (R : Room) (obstacle : ℕ → ℕ) (u n w : ℕ) : Type 0 where
  pub by : ℕ
  pub below : by < n
  pub there : OpenAt obstacle (neighbour R u (move_at by)) w

-- the flood between two visits
pub record Flooding (next : ℕ → List ℕ) (n start : ℕ) (marks line : List ℕ) (head count : ℕ) : Type 0 where
  pub held : Held marks line count
  pub long : length marks ≡ n
  pub within : head ≤ count
  pub root : 0 < get_or marks start 0
  pub chained : (v : ℕ) → 0 < get_or marks v 0 → Chained next start v
  pub closed : (i : ℕ) → i < head → (v : ℕ) → In v (next (get_or line i 0)) → 0 < get_or marks v 0

-- the flood is over: the cells marked are those to which a chain leads
pub record Flooded (next : ℕ → List ℕ) (n start : ℕ) (marks : List ℕ) : Type 0 where
  pub long : length marks ≡ n
  pub small : (v : ℕ) → get_or marks v 0 ≤ 1
  pub exactly : (v : ℕ) → (0 < get_or marks v 0) ↔ Chained next start v

-- n numbers are written one after another over zeros: the first k are those of f
pub record Written (f : ℕ → ℕ) (n : ℕ) (l : List ℕ) (k : ℕ) : Type 0 where
  pub long : length l ≡ n
  pub within : k ≤ n
  pub front : (i : ℕ) → i < k → get_or l i 0 ≡ f i
  pub behind : (i : ℕ) → k ≤ i → get_or l i 0 ≡ 0
