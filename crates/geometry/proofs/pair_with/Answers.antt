-- `pair_with` meets its contract: the conductor beneath is asked for first.
use mathlib.Core.Path.{sym, ◌∙◌}
use borrow.Author.Rules.{rules}
use Rattle.room.specs.RoomLaws.{above_in, beneath_in}
use Rattle.geometry.specs.PairLaws.{pair-here, pair-over}
use Rattle.geometry.proofs.pair_with.Goals as goal
use Rattle.std.specs.Prelude.{◌≡◌, ℕ, Bool, true, false, Option, Some, None, is_some}
use Rattle.basics.specs.Tests.{never}
use Rattle.room.specs.declared.Room.{Room}
use Rattle.room.specs.Room.{beneath, above}
use Rattle.geometry.specs.Geometry.{if_passed}
use Rattle.geometry.specs.Along.{pair_with}

-- by what is asked for beneath
here : (R : Room) (conducts : ℕ → Bool) (cell : ℕ) (o : Option ℕ) → o ≡ if_passed conducts (beneath R cell) → is_some o ≡ true → Some cell ≡ pair_with R conducts cell
here R conducts cell (Some v) e t = pair-here R conducts cell v (sym e)
here R conducts cell None e t = never (cc)

over : (R : Room) (conducts : ℕ → Bool) (cell : ℕ) (o : Option ℕ) → o ≡ if_passed conducts (beneath R cell) → is_some o ≡ false → if_passed conducts (above R cell) ≡ pair_with R conducts cell
over R conducts cell (Some v) e f = never (cc)
over R conducts cell None e f = pair-over R conducts cell (sym e)

pub conductor_at-requires : goal.conductor_at-requires
conductor_at-requires c = λ v e. rw c.requires.bytes_len (beneath_in _ _ v c.requires.cell_bound (sym c.beneath.ensures ∙ e))

pub conductor_at-requires-else-is_some : goal.conductor_at-requires-else-is_some
conductor_at-requires-else-is_some c = λ v e. rw c.requires.bytes_len (above_in _ c.requires.good _ v c.requires.cell_bound (sym c.above.ensures ∙ e))

pub returns-then-is_some : goal.returns-then-is_some
returns-then-is_some c = here _ _ _ _ (rw c.beneath.ensures at c.conductor_at.ensures) (sym c.is_some.ensures ∙ c.if-is_some.true)

pub returns-else-is_some : goal.returns-else-is_some
returns-else-is_some c =
    let asked = rw c.beneath.ensures at c.conductor_at.ensures in
    let above_asked = rw c.above.ensures at c.conductor_at-else-is_some.ensures in
    above_asked ∙ over _ _ _ _ asked (sym c.is_some.ensures ∙ c.if-is_some.false)
