-- The conflict by the rule as written is the conflict of Geometry.
use Rattle.std.specs.Prelude.{◌≡◌, Bool, true, false, ℕ, eqb, get_or, Option, Some, None}
use Rattle.std.proofs.Math.Path.{refl}
use Rattle.std.proofs.Common.{inl, inr}
use Rattle.std.proofs.Math.Bool.{or-true}
use mathlib.Core.List.{List, [], ◌∷◌}
use Rattle.basics.specs.Tests.{either, ask, never}
use Rattle.basics.specs.Lists.{In}
use Rattle.room.specs.declared.Room.{Room}
use Rattle.room.specs.Room.{Good, or_else, above}
use Rattle.room.specs.Units.{air}
use Rattle.routing_resources.specs.Marks.{is_marked, AllCells}
use Rattle.routing_resources.specs.Resources.{clearance_of}
use Rattle.geometry.specs.Geometry.{stands_in, conductor, NoPair, first_pair, if_passed, at_clearance, stair_conflict, conflict_among, conflict_of}
use Rattle.geometry.specs.LayLaws.{in_stands, cells_in}
use Rattle.geometry.specs.StairLaws.{clear-of-conductors}
use Rattle.geometry.specs.GeometryLaws.{no_first_pair}
use Rattle.geometry.specs.AsWritten.{at_clearance_as_written, stair_conflict_as_written, conflict_as_written}
use Rattle.geometry.proofs.StairAsWritten.{stair_as_written}

module _ (R : Room) (G : Good R) (joinable path : List ℕ) (all : AllCells R path) (alone : NoPair R (conductor joinable path)) where
  stairs_as_written : (kinds cells : List ℕ) → ((v : ℕ) → In v cells → In v path)
      → stair_conflict_as_written R kinds (stands_in path) (conductor joinable path) cells ≡ stair_conflict R kinds (conductor joinable path) cells
  unfolding stair_conflict_as_written stair_conflict
  stairs_as_written kinds [] on = refl
  stairs_as_written kinds (a ∷ []) on = refl
  stairs_as_written kinds (a ∷ (b ∷ rest)) on =
      rw (stair_as_written R G joinable path all alone kinds a b (on a (inl refl)) (on b (inr (inl refl))), stairs_as_written kinds (b ∷ rest) (λ v i. on v (inr i)))

-- in a good room, whatever the kinds and the joinable cells, each list of cells has by the rule as written the conflict that Geometry gives it
pub conflict_as_written_lem : (R : Room) → Good R → (kinds joinable path : List ℕ) → AllCells R path
    → conflict_as_written R kinds joinable path ≡ conflict_of R kinds joinable path
unfolding conflict_as_written conflict_among
conflict_as_written_lem R G kinds joinable path all = go (first_pair R (conductor joinable path)) refl
  where
    go : (place : Option ℕ) → first_pair R (conductor joinable path) ≡ place
        → or_else place (stair_conflict_as_written R kinds (stands_in path) (conductor joinable path) path) ≡ or_else place (stair_conflict R kinds (conductor joinable path) path)
    go (Some v) e = refl
    go None e = stairs_as_written R G joinable path all (no_first_pair R (conductor joinable path) e) kinds path (λ v i. i)
