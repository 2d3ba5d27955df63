-- What the contracts of the functions cite that tell of a sink.
use Rattle.std.specs.Prelude.{◌≡◌, Bool, not, ◌&&◌, List, ℕ, ◌*◌, ◌≤◌, ◌<◌, eqb, ltb, length, get_or}
use Rattle.basics.specs.Lists.{all_below}
use Rattle.lent.specs.Lent.{filled}
use Rattle.room.specs.declared.Room.{Room}
use Rattle.room.specs.Room.{Good, volume}
use Rattle.ground.specs.declared.Ground.{Ground}
use Rattle.flood.specs.Walls.{marks_by, walls_by}
use Rattle.why_tree.specs.WhyTree.{tree_obstacle, verdict_for}

-- the room, its kinds, and the marks of a turn fit together
pub record TurnFits (R : Room) (kinds blocked joinable : List ℕ) : Type 0 where
  pub good : Good R
  pub kinds-long : length kinds ≡ volume R
  pub blocked-long : length blocked ≡ volume R
  pub joinable-long : length joinable ≡ volume R

-- by its marks: a cell is reached and joinable
abbrev pub joined_by : ℕ → ℕ → Bool
joined_by reached joinable = ltb 0 reached && eqb joinable 1

-- no cell is
abbrev pub none_joined : List ℕ → List ℕ → Bool
none_joined reached joinable = all_below (λ v. not (joined_by (get_or reached v 0) (get_or joinable v 0))) (length joinable)

-- a sink's approach in that room, and memory
pub record SinkAsked (G : Ground) (kinds blocked joinable : List ℕ) (approach : ℕ) (obstacles line reached walls : List ℕ) : Type 0 where
  pub fits : TurnFits G.room kinds blocked joinable
  pub approach_in : approach < volume G.room
  pub obstacles_long : length obstacles ≡ volume G.room
  pub line-long : length line ≡ volume G.room
  pub reached-enough : volume G.room ≤ length reached
  pub walls-enough : 12 * volume G.room ≤ length walls

-- what may be said of it, and where wire gets to from there
pub record SinkTold (G : Ground) (kinds blocked joinable : List ℕ) (approach : ℕ) (reached walls : List ℕ) (verdict : ℕ) (reached' walls' : List ℕ) : Type 0 where
  pub verdict-is : verdict ≡ verdict_for G kinds blocked joinable approach
  pub reached-is : reached' ≡ filled (marks_by G.room (tree_obstacle G.mode G.room kinds blocked joinable approach) approach) reached
  pub walls-is : walls' ≡ filled (walls_by G.room (tree_obstacle G.mode G.room kinds blocked joinable approach) approach) walls
