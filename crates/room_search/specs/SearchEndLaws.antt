-- The start and the goal of a search are its ends.
use Rattle.std.specs.Prelude.{◌≡◌, refl, true, ℕ, eqb}
use Rattle.std.proofs.Math.Bool.{or-true}
use Rattle.std.proofs.Common.{eq-eqb}
use Rattle.room_search.specs.Routing.{an_end}

pub start-is-end : (start goal : ℕ) → an_end start goal start ≡ true
start-is-end start goal = rw (eq-eqb start start refl)

pub goal-is-end : (start goal : ℕ) → an_end start goal goal ≡ true
goal-is-end start goal = rw (eq-eqb goal goal refl) (or-true (eqb goal start))
