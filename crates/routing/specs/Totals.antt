-- The totals of a path beside its cost, as docs/MORE-RULES.md, The totals of a route, has them: what its steps come to without supports, and how many
-- supports are new. Definitions alone.
use Rattle.std.specs.Prelude.{List, [], ◌∷◌, ℕ, ◌+◌, ◌*◌, eqb}
use Rattle.basics.specs.Tests.{either}
use Rattle.room.specs.declared.Room.{Room}
use Rattle.room.specs.declared.RouterConfig.{RouterConfig}
use Rattle.room.specs.Room.{pos_of, beneath}
use Rattle.room.specs.Units.{air}
use Rattle.room_search.specs.Routing.{kind_at}
use Rattle.routing.specs.declared.Totals.{Totals}

-- "Flat step: horizontal cost. Otherwise: stair cost."
unfoldable pub step_of : Room → RouterConfig → ℕ → ℕ → ℕ
step_of R C u v = either (eqb (pos_of R u).y (pos_of R v).y) C.horizontal.0 C.stair.0

-- "The cell beneath an entered cell ... Air adds the new-support cost": one support is new there, else none
unfoldable pub laid_at : Room → List ℕ → ℕ → ℕ
laid_at R kinds v = either (eqb (kind_at kinds (beneath R v)) air) 1 0

-- along the cells after u: the steps to them, and the new supports beneath them
abbrev pub steps_from : Room → RouterConfig → ℕ → List ℕ → ℕ
steps_from R C u [] = 0
steps_from R C u (v ∷ l) = step_of R C u v + steps_from R C v l

abbrev pub laid_along : Room → List ℕ → List ℕ → ℕ
laid_along R kinds [] = 0
laid_along R kinds (v ∷ l) = laid_at R kinds v + laid_along R kinds l

-- of a path, which begins with the start: "The start's support is never looked at; the goal's is."
abbrev pub path_steps : Room → RouterConfig → List ℕ → ℕ
path_steps R C [] = 0
path_steps R C (u ∷ l) = steps_from R C u l

abbrev pub path_laid : Room → List ℕ → List ℕ → ℕ
path_laid R kinds [] = 0
path_laid R kinds (u ∷ l) = laid_along R kinds l

abbrev pub totals_of : Room → RouterConfig → List ℕ → List ℕ → Totals
totals_of R C kinds path = record {
  steps = record { 0 = path_steps R C path };
  supports = record { 0 = path_laid R kinds path * C.support.0 };
  laid = path_laid R kinds path;
}
