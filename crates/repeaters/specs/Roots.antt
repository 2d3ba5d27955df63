-- The breadth-first search as the code holds it: the cells reached stand in a line, in the order in which they were reached; those from `head` to `reached`
-- wait to be visited.
use Rattle.std.specs.Prelude.{◌≡◌, List, ℕ, ◌≤◌, ◌<◌, length, get_or, take}
use Rattle.std.proofs.Math.Seq.{slice}
use Rattle.room.specs.declared.Room.{Room}
use Rattle.room.specs.Room.{volume}
use Rattle.best_first.specs.ListsAfterSet.{nonzeros}
use Rattle.trace.specs.Traces.{PreviousInside}
use Rattle.walk.specs.Walks.{wave, meet_all, parents_from, root_path}
use Rattle.repeaters.specs.Links.{linked_cells}

-- each cell reached, one whose parent is not 0, stands in the line once, so that the line is long enough for all
pub record LineHeld (parents line : List ℕ) (reached : ℕ) : Type 0 where
  pub line-long : length line ≡ length parents
  pub counted : nonzeros parents ≡ reached
  pub cells : (i : ℕ) → i < reached → get_or line i 0 < length parents
  pub parents-inside : PreviousInside parents

-- these cells were met from one cell, whichever wait to be visited
pub record Met (from : ℕ) (cells : List ℕ) (parents line : List ℕ) (reached : ℕ) (parents' line' : List ℕ) (reached' : ℕ) : Type 0 where
  pub held : LineHeld parents' line' reached'
  pub long : length parents' ≡ length parents
  pub on : reached ≤ reached'
  pub goes : (head : ℕ) → head ≤ reached → wave parents' (slice head reached' line') ≡ meet_all from cells (wave parents (slice head reached line))

-- the parents are those of the definition
pub record Rooted (R : Room) (source : ℕ) (links parents : List ℕ) : Type 0 where
  pub is : parents ≡ parents_from (linked_cells R links) (volume R) source
  pub parents-inside : PreviousInside parents
  pub long : length parents ≡ volume R

-- the path stands at the front of the line
pub record Traced (parents : List ℕ) (cell : ℕ) (line : List ℕ) (count : ℕ) : Type 0 where
  pub is : take count line ≡ root_path parents cell
  pub fits : count ≤ length line
