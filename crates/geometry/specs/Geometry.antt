-- "Conflict of a path with the joinable cells", as docs/RULES.md, The tree of one net, has it. Definitions alone; their laws are in the
-- files named Laws. Conductors are given by a test of a cell.
use Rattle.std.specs.Prelude.{◌≡◌, Bool, false, ◌&&◌, ◌||◌, List, [], ◌∷◌, ℕ, ◌<◌, eqb, get_or, Option, Some, None}
use Rattle.basics.specs.Tests.{either}
use Rattle.basics.specs.Lists.{any}
use Rattle.room.specs.declared.Room.{Room}
use Rattle.room.specs.Room.{volume, in_or_out, holds_at, or_else, first_below, beneath, above}
use Rattle.room.specs.Units.{air}
use Rattle.routing_resources.specs.Marks.{is_marked}
use Rattle.routing_resources.specs.Resources.{clearance_of}

-- v is a cell of the path
unfoldable pub stands_in : List ℕ → ℕ → Bool
stands_in path v = any (λ cell. eqb cell v) path

-- the conductors are the joinable cells and the path's, "both together"
unfoldable pub conductor : List ℕ → List ℕ → ℕ → Bool
conductor joinable path v = is_marked joinable v || stands_in path v

-- "a conductor with a conductor right beneath": v is the upper cell of such a pair
unfoldable pub upper_of_pair : Room → (ℕ → Bool) → ℕ → Bool
upper_of_pair R conducts v = conducts v && holds_at conducts (beneath R v)

-- no conductor has a conductor right beneath
pub record NoPair (R : Room) (conducts : ℕ → Bool) : Type 0 where
  pub none : (v : ℕ) → v < volume R → upper_of_pair R conducts v ≡ false

-- "first, in number order over both together": the upper cell of the first pair
unfoldable pub first_pair : Room → (ℕ → Bool) → Option ℕ
first_pair R conducts = first_below (volume R) (upper_of_pair R conducts)

-- the cell at a place where it passes the test
abbrev pub if_passed : (ℕ → Bool) → Option ℕ → Option ℕ
if_passed test (Some v) = in_or_out (test v) v
if_passed test None = None

-- "the clearance (above the lower end): not Air in the unblocked room gives .. the pair's second cell; a conductor above the clearance gives that
-- cell." Left out is "the path's cell there, else", for none ever stands there: AsWritten has the whole rule, and that it comes to the same. A
-- step with no clearance is no stair
unfoldable pub at_clearance : Room → List ℕ → (ℕ → Bool) → ℕ → Option ℕ → Option ℕ
at_clearance R kinds conducts second None = None
at_clearance R kinds conducts second (Some v) = either (eqb (get_or kinds v air) air) (if_passed conducts (above R v)) (Some second)

-- "along the path's stairs"
unfoldable pub stair_conflict : Room → List ℕ → (ℕ → Bool) → List ℕ → Option ℕ
stair_conflict R kinds conducts [] = None
stair_conflict R kinds conducts (a ∷ []) = None
stair_conflict R kinds conducts (a ∷ (b ∷ rest)) =
    or_else (at_clearance R kinds conducts b (clearance_of R a b)) (stair_conflict R kinds conducts (b ∷ rest))

-- the conflict of a path with given conductors, and with the joinable cells; `None` where there is none
unfoldable pub conflict_among : Room → List ℕ → (ℕ → Bool) → List ℕ → Option ℕ
conflict_among R kinds conducts path = or_else (first_pair R conducts) (stair_conflict R kinds conducts path)

abbrev pub conflict_of : Room → List ℕ → List ℕ → List ℕ → Option ℕ
conflict_of R kinds joinable path = conflict_among R kinds (conductor joinable path) path
