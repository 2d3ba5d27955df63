-- `draw_cell` meets its contract: the cell beneath, where there is one, is in the room.
use mathlib.Core.Path.{sym, ◌∙◌}
use Rattle.room.specs.RoomLaws.{beneath_in}
use Rattle.drawing.specs.DrawingLaws.{drawn_inside, drawn_outside}
use Rattle.drawing.proofs.wiring.draw_cell.Goals as goal
use Rattle.drawing.proofs.wiring.draw_cell.Goals.{in-Some, in_default}

pub lay-requires : goal.lay-requires
lay-requires c = rw c.requires.kinds_len (beneath_in _ _ _ c.requires.cell_bound (sym c.beneath.ensures ∙ c.in-Some.is))

pub returns : goal.returns
returns c =
    elim c.match-beneath.branch [
      | in-Some w ↦ drawn_inside _ _ _ _ _ (sym c.beneath.ensures ∙ w.in-Some.is) (w.kinds-is ∙ w.lay.ensures) c.lay-2.ensures
      | in_default w ↦ drawn_outside _ _ _ _ (sym c.beneath.ensures ∙ w.in_default.is) (rw w.kinds-is at c.lay-2.ensures)
    ]
