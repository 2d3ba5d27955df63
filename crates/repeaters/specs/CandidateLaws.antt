-- The tests of a place one by one, as the code makes them.
use Rattle.std.specs.Prelude.{◌≡◌, false, List, ℕ, ◌+◌, ◌-◌, ◌≤◌, ◌<◌, length, get_or}
use Rattle.std.proofs.Common.{arith}
use borrow.Author.Tests.{eq-eqb, ne_eqb, lt-ltb, le-ltb}
use Rattle.room.specs.declared.Room.{Room}
use Rattle.repeaters.specs.Repeaters.{path_cell, fits, straight}

module _ (R : Room) (next : ℕ → List ℕ) (forbidden path : List ℕ) (i : ℕ) where
  pub fits_not_first : i ≡ 0 → false ≡ fits R next forbidden path i
  unfolding fits
  fits_not_first e = rw e

  module _ (later : i ≡ 0 → ⊥) where
    some : 0 < i
    some = omega arith

    pub fits_not_last : length path ≤ i + 1 → false ≡ fits R next forbidden path i
    unfolding fits
    fits_not_last h = rw (lt-ltb 0 i some, le-ltb (i + 1) (length path) h)

    module _ (more : i + 1 < length path) where
      pub fits_not_end : get_or forbidden (path_cell path i) 0 ≡ 1 → false ≡ fits R next forbidden path i
      unfolding fits
      fits_not_end e = rw (lt-ltb 0 i some, lt-ltb (i + 1) (length path) more, eq-eqb (get_or forbidden (path_cell path i) 0) 1 e)

      module _ (free : get_or forbidden (path_cell path i) 0 ≡ 1 → ⊥) where
        pub fits_not_two : (length (next (path_cell path i)) ≡ 2 → ⊥) → false ≡ fits R next forbidden path i
        unfolding fits
        fits_not_two n =
            rw (lt-ltb 0 i some, lt-ltb (i + 1) (length path) more, ne_eqb (get_or forbidden (path_cell path i) 0) 1 free, ne_eqb (length (next (path_cell path i))) 2 n)

        pub fits_if : length (next (path_cell path i)) ≡ 2
            → straight R (path_cell path (i - 1)) (path_cell path i) (path_cell path (i + 1)) ≡ fits R next forbidden path i
        unfolding fits
        fits_if e =
            rw (lt-ltb 0 i some, lt-ltb (i + 1) (length path) more, ne_eqb (get_or forbidden (path_cell path i) 0) 1 free, eq-eqb (length (next (path_cell path i))) 2 e)
