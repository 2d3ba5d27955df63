-- `first_conflict` meets its contract: where there is no first pair, the stairs decide.
use Rattle.std.specs.Prelude.{◌≡◌, ℕ, Bool, List, Option, Some, None, MatchOption}
use mathlib.Core.Path.{sym, ◌∙◌}
use borrow.Author.Rules.{rules}
use Rattle.room.specs.declared.Room.{Room}
use Rattle.geometry.specs.Geometry.{first_pair, stair_conflict, conflict_among}
use Rattle.geometry.specs.GeometryLaws.{pair-first, then-stairs}
use Rattle.geometry.proofs.first_conflict.Goals as goal

-- by what the first pair is
by : (R : Room) (kinds : List ℕ) (conducts : ℕ → Bool) (path : List ℕ) (P : Type 0) (pair found : Option ℕ) → pair ≡ first_pair R conducts
    → (P → found ≡ stair_conflict R kinds conducts path) → MatchOption pair P (λ v. found ≡ Some v) → found ≡ conflict_among R kinds conducts path
by R kinds conducts path P (Some v) found e f m = m ∙ e ∙ pair-first _ _ _ _ _ (sym e)
by R kinds conducts path P None found e f p = f p ∙ then-stairs _ _ _ _ (sym e)

pub returns : goal.returns
returns c = by _ _ _ _ _ _ _ c.first_pair.ensures (λ p. search rules) c.or_else.ensures
