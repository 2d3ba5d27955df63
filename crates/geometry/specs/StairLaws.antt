-- Laws of stairs: how a loop goes along them, and that no conductor stands at a clearance where no two conductors make a pair.
use Rattle.std.specs.Prelude.{◌≡◌, Bool, true, false, ◌&&◌, List, ℕ, ◌+◌, ◌≤◌, ◌<◌, length, get_or, drop, Option, Some, None}
use Rattle.std.proofs.Math.Path.{refl}
use Rattle.std.proofs.Common.{sym, arith}
use Rattle.basics.specs.Folds.{ByPairs, pairs_next, pairs_end}
use Rattle.basics.specs.Tests.{ask, never}
use Rattle.room.specs.declared.Room.{Room}
use Rattle.room.specs.Room.{Good, volume, holds_at, or_else, beneath}
use Rattle.routing_resources.specs.Resources.{lower, clearance_of}
use Rattle.routing_resources.specs.ResourceLaws.{lower-holds, clearance_above, lower_in, clearance_in}
use Rattle.geometry.specs.Geometry.{upper_of_pair, NoPair, at_clearance, stair_conflict}
use Rattle.room.specs.AboveLaws.{above-beneath}

-- ---- stair by stair

module _ (R : Room) (kinds : List ℕ) (conducts : ℕ → Bool) where
  -- what the stairs from the i-th cell on give
  abbrev pub stairs_from : List ℕ → ℕ → Option ℕ
  stairs_from path i = stair_conflict R kinds conducts (drop i path)

  -- what the stair from the i-th cell gives
  abbrev pub stair_at : List ℕ → ℕ → Option ℕ
  stair_at path i = at_clearance R kinds conducts (get_or path (i + 1) 0) (clearance_of R (get_or path i 0) (get_or path (i + 1) 0))

  stairs-by-pairs : ByPairs (stair_conflict R kinds conducts) None (λ a b. or_else (at_clearance R kinds conducts b (clearance_of R a b)))
  unfolding stair_conflict
  stairs-by-pairs = record { at-nothing = refl; at_one = λ a. refl; at_pair = λ a b rest. refl }

  pub stairs-next : (path : List ℕ) (i : ℕ) → i + 1 < length path → stair_at path i ≡ None → stairs_from path (i + 1) ≡ stairs_from path i
  stairs-next path i h e = rw (pairs_next stairs-by-pairs path i h, e)

  pub stairs-found : (path : List ℕ) (i : ℕ) → i + 1 < length path → (v : ℕ) → stair_at path i ≡ Some v → stair_at path i ≡ stairs_from path i
  stairs-found path i h v e = rw (pairs_next stairs-by-pairs path i h, e)

  pub stairs-end : (path : List ℕ) (i : ℕ) → length path ≤ i + 1 → None ≡ stairs_from path i
  stairs-end path i h = sym (pairs_end stairs-by-pairs path i h)

-- ---- the cell at a clearance

-- the lower end is a conductor, so that a conductor at the clearance would make a pair with it
pub clear-of-conductors : (R : Room) → Good R → (conducts : ℕ → Bool) → NoPair R conducts → (a b : ℕ) → a < volume R → b < volume R → conducts a ≡ true → conducts b ≡ true
    → (v : ℕ) → clearance_of R a b ≡ Some v → conducts v ≡ false
unfolding upper_of_pair
clear-of-conductors R G conducts alone a b a_in b-in ca cb v e =
    let low : conducts (lower R a b) ≡ true = lower-holds R a b (λ u. conducts u ≡ true) ca cb in
    let n : conducts v && holds_at conducts (beneath R v) ≡ false = alone.none v (clearance_in R G a b a_in b-in v e) in
    let m : conducts v && true ≡ false = rw (above-beneath R G (lower R a b) v (lower_in R G a b a_in b-in) (clearance_above R a b v e), low) at n in
    ask (conducts v) (λ t. never (cc (rw t at m))) (λ f. f)
