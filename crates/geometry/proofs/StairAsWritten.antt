-- One stair by the rule as written: what is left out of the shorter rule never comes.
use Rattle.std.specs.Prelude.{◌≡◌, Bool, true, false, ℕ, eqb, get_or, Option, Some, None}
use Rattle.std.proofs.Math.Path.{refl}
use Rattle.std.proofs.Common.{inl, inr}
use Rattle.std.proofs.Math.Bool.{or-true}
use mathlib.Core.List.{List, [], ◌∷◌}
use Rattle.basics.specs.Tests.{either, ask, never}
use Rattle.basics.specs.Lists.{In}
use Rattle.room.specs.declared.Room.{Room}
use Rattle.room.specs.Room.{Good, or_else, above}
use Rattle.room.specs.Units.{air}
use Rattle.routing_resources.specs.Marks.{is_marked, AllCells}
use Rattle.routing_resources.specs.Resources.{clearance_of}
use Rattle.geometry.specs.Geometry.{stands_in, conductor, NoPair, first_pair, if_passed, at_clearance, stair_conflict, conflict_among, conflict_of}
use Rattle.geometry.specs.LayLaws.{in_stands, cells_in}
use Rattle.geometry.specs.StairLaws.{clear-of-conductors}
use Rattle.geometry.specs.GeometryLaws.{no_first_pair}
use Rattle.geometry.specs.AsWritten.{at_clearance_as_written, stair_conflict_as_written, conflict_as_written}

-- ---- what is left out of it never comes

module _ (R : Room) (G : Good R) (joinable path : List ℕ) (all : AllCells R path) (alone : NoPair R (conductor joinable path)) where
  path_conducts : (v : ℕ) → stands_in path v ≡ true → conductor joinable path v ≡ true
  unfolding conductor
  path_conducts v t = rw t (or-true (is_marked joinable v))

  -- at the clearance of a stair between two cells of the path there is no conductor
  pub no_conductor_at_clearance : (a b : ℕ) → In a path → In b path → (v : ℕ) → clearance_of R a b ≡ Some v → conductor joinable path v ≡ false
  no_conductor_at_clearance a b a-on b-on =
      clear-of-conductors R G (conductor joinable path) alone a b (cells_in R path all a a-on) (cells_in R path all b b-on)
      (path_conducts a (in_stands path a a-on)) (path_conducts b (in_stands path b b-on))

  -- so no cell of the path either
  pub not_on_path_at_clearance : (a b : ℕ) → In a path → In b path → (v : ℕ) → clearance_of R a b ≡ Some v → stands_in path v ≡ false
  not_on_path_at_clearance a b a-on b-on v e =
      ask (stands_in path v)
      (λ t. let c = path_conducts v t in let f = no_conductor_at_clearance a b a-on b-on v e in never (cc))
      (λ f. f)

  -- so a stair has by the rule as written what the shorter rule gives it
  pub stair_as_written : (kinds : List ℕ) (a b : ℕ) → In a path → In b path
      → at_clearance_as_written R kinds (stands_in path) (conductor joinable path) b (clearance_of R a b) ≡ at_clearance R kinds (conductor joinable path) b (clearance_of R a b)
  unfolding at_clearance_as_written at_clearance
  stair_as_written kinds a b a-on b-on = go (clearance_of R a b) (not_on_path_at_clearance a b a-on b-on)
    where
      go : (place : Option ℕ) → ((v : ℕ) → place ≡ Some v → stands_in path v ≡ false)
          → at_clearance_as_written R kinds (stands_in path) (conductor joinable path) b place ≡ at_clearance R kinds (conductor joinable path) b place
      go (Some v) off = rw (off v refl)
      go None off = refl
