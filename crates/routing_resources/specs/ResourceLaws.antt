-- Laws of clearances: a clearance stands right above the lower end, which is one of the two, and is a cell of the room.
use Rattle.std.specs.Prelude.{◌≡◌, ℕ, ◌<◌, ltb, eqb, Some}
use Rattle.basics.specs.Tests.{ask, never}
use Rattle.room.specs.declared.Room.{Room}
use Rattle.room.specs.Room.{Good, volume, above}
use Rattle.room.specs.RoomLaws.{above_in}
use Rattle.routing_resources.specs.Resources.{level, lower, clearance_of}

module _ (R : Room) (a b : ℕ) where
  -- what holds of both ends holds of the lower one
  pub lower-holds : (P : ℕ → Type 0) → P a → P b → P (lower R a b)
  lower-holds P p q = ask (ltb (level R a) (level R b)) (λ t. rw t p) (λ f. rw f q)

  pub clearance_above : (v : ℕ) → clearance_of R a b ≡ Some v → above R (lower R a b) ≡ Some v
  unfolding clearance_of
  clearance_above v e = ask (eqb (level R a) (level R b)) (λ t. never (cc (rw t at e))) (λ f. rw f at e)

module _ (R : Room) (G : Good R) (a b : ℕ) (a_in : a < volume R) (b-in : b < volume R) where
  pub lower_in : lower R a b < volume R
  lower_in = lower-holds R a b (λ v. v < volume R) a_in b-in

  pub clearance_in : (v : ℕ) → clearance_of R a b ≡ Some v → v < volume R
  clearance_in v e = above_in R G (lower R a b) v lower_in (clearance_above R a b v e)
