-- Laws of pairs: where each pair of conductors has a cell of the path, the first pair's upper cell is the least along the path.
use Rattle.std.specs.Prelude.{◌≡◌, ◌⊎◌, Bool, false, ltb, Option, Some, None}
use Rattle.std.proofs.Math.Path.{refl}
use Rattle.std.proofs.Common.{sym, ap, inl, inr, ⊎_elim}
use Rattle.std.proofs.Math.Bool.{true}
use mathlib.Core.List.{List, [], ◌∷◌}
use Prim.Native.Nat.{ℕ, ◌≤◌, ◌<◌}
use Rattle.std.proofs.Math.Nat.{le_of_lt}
use native.Mathlib.Omega.{arith}
use borrow.Author.Tests.{ltb-true, ltb-false, lt-ltb, le-ltb}
use Rattle.basics.specs.Tests.{ask, ask_less, and_left, and_right, and_both, never}
use Rattle.basics.specs.Lists.{In}
use Rattle.room.specs.declared.Room.{Room}
use Rattle.room.specs.Room.{Good, volume, in_or_out, holds_at, beneath, above}
use Rattle.geometry.specs.Geometry.{upper_of_pair, first_pair, if_passed}
use Rattle.geometry.specs.Along.{pair_with, lesser_place, least_upper, OnPath}
use Rattle.room.specs.AboveLaws.{above-beneath, beneath-above, beneath_lt}
use Rattle.room.specs.RoomLaws.{inside-passed}
use Rattle.room.specs.PlaceLaws.{out-failed, first-none, first-is}
use Rattle.basics.specs.Folds.{along}

-- ---- a conductor's pairs

-- a conductor beneath is at a cell
at-cell : (conducts : ℕ → Bool) (place : Option ℕ) → holds_at conducts place ≡ true → (u : ℕ) × ((place ≡ Some u) × (conducts u ≡ true))
at-cell conducts (Some u) e = (u, (refl, e))
at-cell conducts None e = never (cc)

passed-cell : (test : ℕ → Bool) (place : Option ℕ) (w : ℕ) → if_passed test place ≡ Some w → (place ≡ Some w) × (test w ≡ true)
passed-cell test (Some v) w e = let q = inside-passed (test v) v w e in (ap Some q.0, rw q.0 at q.1)
passed-cell test None w e = never (cc)

none-held : (test : ℕ → Bool) (place : Option ℕ) → if_passed test place ≡ None → holds_at test place ≡ false
none-held test (Some v) e = out-failed (test v) v e
none-held test None e = refl

-- the conductor beneath a cell decides what the cell's pair is
module _ (R : Room) (conducts : ℕ → Bool) (cell : ℕ) where
  pub pair-here : (v : ℕ) → if_passed conducts (beneath R cell) ≡ Some v → Some cell ≡ pair_with R conducts cell
  unfolding pair_with
  pair-here v e = let b = passed-cell conducts (beneath R cell) v e in rw (b.0, b.1)

  pub pair-over : if_passed conducts (beneath R cell) ≡ None → if_passed conducts (above R cell) ≡ pair_with R conducts cell
  unfolding pair_with
  pair-over e = rw (none-held conducts (beneath R cell) e)

module _ (R : Room) (G : Good R) (conducts : ℕ → Bool) where
  upper_is : (v u : ℕ) → beneath R v ≡ Some u → conducts v ≡ true → conducts u ≡ true → upper_of_pair R conducts v ≡ true
  unfolding upper_of_pair
  upper_is v u b p q = and_both p (rw b q)

  module _ (cell : ℕ) (cell_in : cell < volume R) (c : conducts cell ≡ true) where
    pair-upper : (w : ℕ) → pair_with R conducts cell ≡ Some w → upper_of_pair R conducts w ≡ true
    unfolding pair_with
    pair-upper w e = ask (holds_at conducts (beneath R cell)) (λ t. here t (rw t at e)) (λ f. over (rw f at e))
      where
        here : holds_at conducts (beneath R cell) ≡ true → Some cell ≡ Some w → upper_of_pair R conducts w ≡ true
        here t q = let s : cell ≡ w = cc in let b = at-cell conducts (beneath R cell) t in rw (← s) (upper_is cell b.0 b.1.0 c b.1.1)

        over : if_passed conducts (above R cell) ≡ Some w → upper_of_pair R conducts w ≡ true
        over q =
            let a = passed-cell conducts (above R cell) w q in
            upper_is w cell (above-beneath R G cell w cell_in a.0) a.1 c

    pair-least : (v : ℕ) → v < volume R → upper_of_pair R conducts v ≡ true → ((v ≡ cell) ⊎ (beneath R v ≡ Some cell))
        → (w : ℕ) × ((pair_with R conducts cell ≡ Some w) × (w ≤ v))
    unfolding pair_with upper_of_pair
    pair-least v h u s = ask (holds_at conducts (beneath R cell)) (λ t. (cell, (rw t refl, low s))) (λ f. over f s)
      where
        low : (v ≡ cell) ⊎ (beneath R v ≡ Some cell) → cell ≤ v
        low (inl e) = omega arith
        low (inr b) = le_of_lt (beneath_lt R G v cell b)

        over : holds_at conducts (beneath R cell) ≡ false → (v ≡ cell) ⊎ (beneath R v ≡ Some cell) → (w : ℕ) × ((pair_with R conducts cell ≡ Some w) × (w ≤ v))
        over f (inl e) = let t : holds_at conducts (beneath R cell) ≡ true = rw e at (and_right (conducts v) (holds_at conducts (beneath R v)) u) in never (cc)
        over f (inr b) =
            let t : conducts v ≡ true = and_left _ _ u in
            (v, (rw (f, beneath-above R G v cell h b, t), omega arith))

  -- ---- the least along the path

  -- n is the least upper cell of a pair with a cell of the path, or `start` where none is less
  record LeastUpper (path : List ℕ) (start n : ℕ) : Type 0 where
    most : n ≤ start
    least : (cell w : ℕ) → In cell path → pair_with R conducts cell ≡ Some w → n ≤ w
    upper : n < start → upper_of_pair R conducts n ≡ true

  lesser-most : (place : Option ℕ) (n : ℕ) → lesser_place place n ≤ n
  lesser-most (Some v) n = ask (ltb v n) (λ t. rw t (omega (arith, ltb-true v n t))) (λ f. rw f (omega arith))
  lesser-most None n = omega arith

  lesser-least : (place : Option ℕ) (n w : ℕ) → place ≡ Some w → lesser_place place n ≤ w
  lesser-least (Some v) n w e =
      let s : v ≡ w = cc in
      ask (ltb v n) (λ t. rw t (omega arith)) (λ f. rw f (omega (arith, ltb-false v n f)))
  lesser-least None n w e = never (cc)

  lesser-upper : (place : Option ℕ) (n : ℕ) → ((w : ℕ) → place ≡ Some w → upper_of_pair R conducts w ≡ true) → lesser_place place n < n → upper_of_pair R conducts (lesser_place place n) ≡ true
  lesser-upper (Some v) n f h = ask (ltb v n) (λ t. rw t (f v refl)) (λ g. absurd (omega (arith, rw g at h)))
  lesser-upper None n f h = absurd (omega arith)

  -- one cell more, at the path's front
  least_more : (x : ℕ) (xs : List ℕ) (start n : ℕ) → x < volume R → conducts x ≡ true → LeastUpper xs (lesser_place (pair_with R conducts x) start) n → LeastUpper (x ∷ xs) start n
  least_more x xs start n x_in c rest = record { most = omega (arith, rest.most, lesser-most (pair_with R conducts x) start); least = one; upper = two }
    where
      next : ℕ
      next = lesser_place (pair_with R conducts x) start

      one : (cell w : ℕ) → In cell (x ∷ xs) → pair_with R conducts cell ≡ Some w → n ≤ w
      one cell w (inl e) q = omega (arith, rest.most, lesser-least (pair_with R conducts x) start w (rw e at q))
      one cell w (inr i) q = rest.least cell w i q

      two : n < start → upper_of_pair R conducts n ≡ true
      two h =
          ask_less n next rest.upper
          (λ f.
          let s : n ≡ next = omega (arith, rest.most, f) in
          rw s (lesser-upper (pair_with R conducts x) start (pair-upper x x_in c) (omega arith)))

  least-along : (path : List ℕ) (start : ℕ) → ((v : ℕ) → In v path → v < volume R) → ((v : ℕ) → In v path → conducts v ≡ true) → LeastUpper path start (least_upper R conducts path start)
  unfolding along
  least-along [] start cells c = record { most = omega arith; least = λ cell w i e. absurd i; upper = λ h. absurd (omega arith) }
  least-along (x ∷ xs) start cells c =
      least_more x xs start (least_upper R conducts xs (lesser_place (pair_with R conducts x) start)) (cells x (inl refl)) (c x (inl refl))
      (least-along xs (lesser_place (pair_with R conducts x) start) (λ v i. cells v (inr i)) (λ v i. c v (inr i)))

  first-along : (path : List ℕ) → ((v : ℕ) → In v path → v < volume R) → OnPath R conducts path
      → in_or_out (ltb (least_upper R conducts path (volume R)) (volume R)) (least_upper R conducts path (volume R)) ≡ first_pair R conducts
  unfolding first_pair upper_of_pair
  first-along path cells on =
      ask (ltb n (volume R))
      (λ t. rw t (sym (first-is (upper_of_pair R conducts) (volume R) n (ltb-true _ _ t) (l.upper (ltb-true _ _ t)) lower)))
      (λ f. rw f (sym (first-none (upper_of_pair R conducts) (volume R) (λ v h. lower v (omega (arith, ltb-false n (volume R) f))))))
    where
      n : ℕ
      n = least_upper R conducts path (volume R)

      l : LeastUpper path (volume R) n
      l = least-along path (volume R) cells on.conducting

      reached : (v : ℕ) → v < volume R → upper_of_pair R conducts v ≡ true → (cell : ℕ) → In cell path → ((v ≡ cell) ⊎ (beneath R v ≡ Some cell)) → n ≤ v
      reached v h u cell i s =
          let w = pair-least cell (cells cell i) (on.conducting cell i) v h u s in
          omega (arith, l.least cell w.0 i w.1.0, w.1.1)

      met : (v : ℕ) → v < volume R → upper_of_pair R conducts v ≡ true → n ≤ v
      met v h u =
          let b = at-cell conducts (beneath R v) (and_right (conducts v) (holds_at conducts (beneath R v)) u) in
          ⊎_elim (λ i. reached v h u v i (inl refl)) (λ i. reached v h u b.0 i (inr b.1.0)) (on.touched v b.0 h b.1.0 (and_left (conducts v) (holds_at conducts (beneath R v)) u) b.1.1)

      lower : (v : ℕ) → v < n → upper_of_pair R conducts v ≡ false
      lower v h = ask (upper_of_pair R conducts v) (λ t. absurd (omega (arith, met v (omega (arith, l.most)) t))) (λ f. f)

  -- what the walk along the path leaves, as the place that is asked for
  module _ (path : List ℕ) (cells : (v : ℕ) → In v path → v < volume R) (on : OnPath R conducts path) (none least : ℕ) (all : none ≡ volume R) (walked : least ≡ least_upper R conducts path none) where
    is-first : in_or_out (ltb least none) least ≡ first_pair R conducts
    is-first = rw (walked, all) (first-along path cells on)

    pub first_found : least < none → Some least ≡ first_pair R conducts
    first_found h = rw (lt-ltb least none h) at is-first

    pub first_missing : none ≤ least → None ≡ first_pair R conducts
    first_missing h = rw (le-ltb least none h) at is-first
