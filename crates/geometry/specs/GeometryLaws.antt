-- Which conductors make no pair, and what a path without conflict leaves: no two conductors, joinable cells and the path's together, of which one
-- stands right above the other.
use Rattle.std.specs.Prelude.{◌≡◌, refl, Bool, false, ◌&&◌, ◌||◌, List, ℕ, ◌<◌, length, Option, Some, None}
use Rattle.std.proofs.Common.{sym, ◌∙◌, arith}
use Rattle.std.proofs.Math.Bool.{true}
use Rattle.std.proofs.Math.ListN.{get_or-eq_default}
use Rattle.basics.specs.Tests.{ask, ask_less, and_left, and_right, or_left, never}
use Rattle.room.specs.declared.Room.{Room}
use Rattle.room.specs.Room.{Good, volume, holds_at, beneath}
use Rattle.routing_resources.specs.Marks.{is_marked, marked_by}
use Rattle.routing_resources.specs.MarkLaws.{marked-after, with_length_lem}
use Rattle.geometry.specs.Geometry.{stands_in, conductor, upper_of_pair, NoPair, first_pair, stair_conflict, conflict_among, conflict_of}
use Rattle.room.specs.AboveLaws.{beneath_lt}
use Rattle.room.specs.PlaceLaws.{or_none, none_first}

-- fewer conductors have no pair either
no_pair_fewer : (R : Room) (more fewer : ℕ → Bool) → ((v : ℕ) → fewer v ≡ true → more v ≡ true) → NoPair R more → NoPair R fewer
unfolding upper_of_pair
no_pair_fewer R more fewer part alone = record { none = λ v h. ask (upper_of_pair R fewer v) (λ t. absurd (pair v h t)) (λ f. f) }
  where
    still : (place : Option ℕ) → holds_at fewer place ≡ true → holds_at more place ≡ true
    still (Some u) e = part u e
    still None e = e

    pair : (v : ℕ) → v < volume R → fewer v && holds_at fewer (beneath R v) ≡ true → ⊥
    pair v h t =
        let p = part v (and_left (fewer v) (holds_at fewer (beneath R v)) t) in
        let q = still (beneath R v) (and_right (fewer v) (holds_at fewer (beneath R v)) t) in
        let n : true ≡ false = rw (p, q) at (alone.none v h) in
        never (cc)

-- one conductor alone has none
pub no_pair_one : (R : Room) → Good R → (conducts : ℕ → Bool) (cell : ℕ) → ((v : ℕ) → conducts v ≡ true → v ≡ cell) → NoPair R conducts
unfolding upper_of_pair
no_pair_one R G conducts cell one = record { none = λ v h. ask (upper_of_pair R conducts v) (λ t. absurd (pair v h (beneath R v) refl t)) (λ f. f) }
  where
    pair : (v : ℕ) → v < volume R → (place : Option ℕ) → beneath R v ≡ place → conducts v && holds_at conducts place ≡ true → ⊥
    pair v h (Some u) b t =
        let same : u ≡ v = one u (and_right (conducts v) (conducts u) t) ∙ sym (one v (and_left (conducts v) (conducts u) t)) in
        omega (arith, beneath_lt R G v u b)
    pair v h None b t = let n = and_right (conducts v) false t in never (cc)

-- no first pair is no pair
pub no_first_pair : (R : Room) (conducts : ℕ → Bool) → first_pair R conducts ≡ None → NoPair R conducts
unfolding first_pair
no_first_pair R conducts e = record { none = none_first (upper_of_pair R conducts) (volume R) e }

-- pairs first, then stairs
module _ (R : Room) (kinds : List ℕ) (conducts : ℕ → Bool) (path : List ℕ) where
  pub pair-first : (v : ℕ) → first_pair R conducts ≡ Some v → first_pair R conducts ≡ conflict_among R kinds conducts path
  unfolding conflict_among
  pair-first v e = rw e

  pub then-stairs : first_pair R conducts ≡ None → stair_conflict R kinds conducts path ≡ conflict_among R kinds conducts path
  unfolding conflict_among
  then-stairs e = rw e

module _ (R : Room) (kinds joinable path : List ℕ) (free : conflict_of R kinds joinable path ≡ None) where
  no_pair_among : NoPair R (conductor joinable path)
  unfolding conflict_among
  no_pair_among =
      no_first_pair R (conductor joinable path)
      (or_none (first_pair R (conductor joinable path)) (stair_conflict R kinds (conductor joinable path) path) free).0

  -- so with the path's cells marked, or only some of them, the joinable cells have none
  pub no_pair_after : (test : ℕ → Bool) → ((v : ℕ) → test v ≡ true → stands_in path v ≡ true) → NoPair R (is_marked (marked_by test joinable))
  unfolding conductor
  no_pair_after test part = no_pair_fewer R (conductor joinable path) (is_marked (marked_by test joinable)) was no_pair_among
    where
      marked : (v : ℕ) → test v || is_marked joinable v ≡ true → is_marked joinable v || stands_in path v ≡ true
      marked v e = ask (is_marked joinable v) (λ t. rw t) (λ f. rw (f, part v (or_left (test v) (is_marked joinable v) e f)))

      was : (v : ℕ) → is_marked (marked_by test joinable) v ≡ true → is_marked joinable v || stands_in path v ≡ true
      was v e =
          ask_less v (length joinable)
          (λ h. marked v (rw (marked-after test joinable v h) at e))
          (λ h. never (cc (rw (get_or-eq_default (marked_by test joinable) 0 {n = v} (rw (with_length_lem 1 test joinable) h)) at e)))
