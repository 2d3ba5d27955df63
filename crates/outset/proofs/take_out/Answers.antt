-- `take_out` meets its contract: the cell, then the one right beneath it.
use mathlib.Core.Path.{sym, ◌∙◌}
use Rattle.outset.specs.OutsetLaws.{out-cell}
use Rattle.room.specs.RoomLaws.{beneath_in}
use Rattle.outset.proofs.take_out.Goals as goal

pub put_mark-requires : goal.put_mark-requires
put_mark-requires c = λ v e. rw (c.unmark.auto.marks, c.requires.marks_len) (beneath_in _ _ v c.requires.cell_bound (sym c.beneath.ensures ∙ e))

pub returns : goal.returns
returns c = out-cell _ _ _ c.beneath.ensures c.unmark.ensures c.put_mark.ensures
