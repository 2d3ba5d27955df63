-- Where a repeater stands: between its two tree neighbours. Definitions alone.
use Rattle.std.specs.Prelude.{◌≡◌, ◌⊎◌, ◌≢◌, List, [], ◌∷◌, ℕ, suc, ◌+◌, get_or}
use Rattle.room.specs.declared.Room.{Room}
use Rattle.room.specs.Room.{pos_of}
use Rattle.room.specs.Units.{no_facing}
use Rattle.repeaters.specs.Repeaters.{facing_of}

-- a and b are on the level of v, and v is half way between them: they are opposite each other
pub record Opposite (R : Room) (a v b : ℕ) : Type 0 where
  pub level_before : (pos_of R a).y ≡ (pos_of R v).y
  pub level-behind : (pos_of R b).y ≡ (pos_of R v).y
  pub half_x : (pos_of R a).x + (pos_of R b).x ≡ (pos_of R v).x + (pos_of R v).x
  pub half_z : (pos_of R a).z + (pos_of R b).z ≡ (pos_of R v).z + (pos_of R v).z

-- cell v has exactly two neighbours, opposite each other; the one before it is its parent on the path, with a facing to it that goes on behind it
pub record StandsBetween (R : Room) (next : ℕ → List ℕ) (parents : List ℕ) (v : ℕ) : Type 0 where
  pub before : ℕ
  pub behind : ℕ
  pub apart : before ≢ behind
  pub neighbours : (next v ≡ before ∷ behind ∷ []) ⊎ (next v ≡ behind ∷ before ∷ [])
  pub opposite : Opposite R before v behind
  pub parent_is : get_or parents v 0 ≡ suc before
  pub flat : facing_of R before v ≢ no_facing
  pub straight-on : facing_of R before v ≡ facing_of R v behind
