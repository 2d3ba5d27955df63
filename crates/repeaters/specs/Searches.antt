-- What a search comes to that meets cells, in the memory that is lent to it.
use Rattle.std.specs.Prelude.{◌≡◌, List, ℕ, length}
use Rattle.std.proofs.Math.ListN.{set}
use Rattle.room.specs.declared.Room.{Room}
use Rattle.room.specs.Room.{volume}
use Rattle.repeaters.specs.declared.Search.{Search}
use Rattle.repeaters.specs.Roots.{Met, Rooted}

-- these cells were met from one cell, in the memory that is lent to the search
pub record Went (from : ℕ) (cells : List ℕ) (s t : Search) : Type 0 where
  pub parents_is : t.parents.ghost_name ≡ s.parents.ghost_name
  pub line_is : t.line.ghost_name ≡ s.line.ghost_name
  pub met : Met from cells s.parents.now s.line.now s.reached t.parents.now t.line.now t.reached

-- all that the tree links to the source is reached: the parents are those of the definition, once the source has none
pub record Spread (R : Room) (source : ℕ) (links : List ℕ) (s t : Search) : Type 0 where
  pub parents_is : t.parents.ghost_name ≡ s.parents.ghost_name
  pub line_is : t.line.ghost_name ≡ s.line.ghost_name
  pub long : length t.parents.now ≡ volume R
  pub rooted : Rooted R source links (set t.parents.now source 0)
