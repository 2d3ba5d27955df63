-- The conflict of a path with a stair's rule as the requirement has it written, the path's cell at the clearance looked for; and that this is the
-- conflict of Geometry, where it is not. By then no two conductors make a pair, so none stands right above a stair's lower end.
use Rattle.std.specs.Prelude.{Bool, ℕ, eqb, get_or, Option, Some, None}
use mathlib.Core.List.{List, [], ◌∷◌}
use Rattle.basics.specs.Tests.{either}
use Rattle.room.specs.declared.Room.{Room}
use Rattle.room.specs.Room.{or_else, above}
use Rattle.room.specs.Units.{air}
use Rattle.routing_resources.specs.Resources.{clearance_of}
use Rattle.geometry.specs.Geometry.{stands_in, conductor, first_pair, if_passed}

-- ---- the rule as written

-- "the clearance (above the lower end): not Air in the unblocked room gives the path's cell there, else the pair's second cell; a conductor
-- above the clearance gives that cell." A step with no clearance is no stair
unfoldable pub at_clearance_as_written : Room → List ℕ → (ℕ → Bool) → (ℕ → Bool) → ℕ → Option ℕ → Option ℕ
at_clearance_as_written R kinds on_path conducts second None = None
at_clearance_as_written R kinds on_path conducts second (Some v) =
    either (eqb (get_or kinds v air) air) (if_passed conducts (above R v)) (Some (either (on_path v) v second))

-- "along the path's stairs"
unfoldable pub stair_conflict_as_written : Room → List ℕ → (ℕ → Bool) → (ℕ → Bool) → List ℕ → Option ℕ
stair_conflict_as_written R kinds on_path conducts [] = None
stair_conflict_as_written R kinds on_path conducts (a ∷ []) = None
stair_conflict_as_written R kinds on_path conducts (a ∷ (b ∷ rest)) =
    or_else (at_clearance_as_written R kinds on_path conducts b (clearance_of R a b)) (stair_conflict_as_written R kinds on_path conducts (b ∷ rest))

-- the conflict of a path with the joinable cells; `None` where there is none
unfoldable pub conflict_as_written : Room → List ℕ → List ℕ → List ℕ → Option ℕ
conflict_as_written R kinds joinable path =
    or_else (first_pair R (conductor joinable path)) (stair_conflict_as_written R kinds (stands_in path) (conductor joinable path) path)
