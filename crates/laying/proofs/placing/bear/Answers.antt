-- `bear` meets its contract: the cell beneath, where there is one, is in the room.
use mathlib.Core.Path.{refl, sym, ◌∙◌}
use Rattle.room.specs.RoomLaws.{beneath_in}
use Rattle.laying.proofs.placing.bear.Goals as goal

pub lay-requires-clause-cell_in_bounds : goal.lay-requires-clause-cell_in_bounds
lay-requires-clause-cell_in_bounds c = let h = beneath_in _ _ _ c.requires.cell_bound (sym c.beneath.ensures ∙ c.in-Some.is) in rw c.requires.room_held.kinds-long h

pub lay-requires-clause-cell_in_bounds_2 : goal.lay-requires-clause-cell_in_bounds_2
lay-requires-clause-cell_in_bounds_2 c = let h = beneath_in _ _ _ c.requires.cell_bound (sym c.beneath.ensures ∙ c.in-Some.is) in rw c.requires.room_held.facings-long h

pub returns-in-Some : goal.returns-in-Some
returns-in-Some c = rw (sym c.beneath.ensures ∙ c.in-Some.is) c.lay.ensures

pub returns-in_default : goal.returns-in_default
returns-in_default c = rw (sym c.beneath.ensures ∙ c.in_default.is) refl
