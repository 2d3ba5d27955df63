-- `block_keepout` meets its contract: a block that powers, a Repeater, or another.
use mathlib.Core.Path.{sym, ◌∙◌}
use borrow.Author.Tests.{eq-eqb, ne_eqb}
use Rattle.room.specs.RoomLaws.{cell_in}
use Rattle.room.specs.MoveLaws.{ahead_in}
use Rattle.outset.specs.OutsetLaws.{block-powers, block_output, block_none}
use Rattle.outset.proofs.block_keepout.Goals as goal

pub electrical_keepout_for_wire-requires-clause-good : goal.electrical_keepout_for_wire-requires-clause-good
electrical_keepout_for_wire-requires-clause-good c =
    c.requires.sized.good

pub electrical_keepout_for_wire-requires-clause-cell_bound : goal.electrical_keepout_for_wire-requires-clause-cell_bound
electrical_keepout_for_wire-requires-clause-cell_bound c =
    rw c.cell-cell.ensures (cell_in _ _ c.requires.within)

pub electrical_keepout_for_wire-requires-clause-marks_len : goal.electrical_keepout_for_wire-requires-clause-marks_len
electrical_keepout_for_wire-requires-clause-marks_len c =
    c.requires.sized.long

pub returns-then-powers : goal.returns-then-powers
returns-then-powers c = block-powers _ _ _ _ c.args.block c.cell-cell.ensures (sym c.powers.ensures ∙ c.if-powers.true) c.electrical_keepout_for_wire.ensures

pub ahead-requires-clause-good : goal.ahead-requires-clause-good
ahead-requires-clause-good c = c.requires.sized.good

pub ahead-requires-clause-cell_bound : goal.ahead-requires-clause-cell_bound
ahead-requires-clause-cell_bound c = rw c.cell-cell.ensures (cell_in _ _ c.requires.within)

pub output_keepout-requires : goal.output_keepout-requires
output_keepout-requires c = record { sized = c.requires.sized; output_in = λ v e. ahead_in _ _ _ v (sym c.ahead.ensures ∙ e) }

pub returns-then-block-eq-REPEATER : goal.returns-then-block-eq-REPEATER
returns-then-block-eq-REPEATER c = block_output _ _ _ _ c.args.block (sym c.powers.ensures ∙ c.if-powers.false) c.cell-cell.ensures (eq-eqb _ _ c.if-block-eq-REPEATER.true) c.ahead.ensures c.output_keepout.ensures

pub returns-else-block-eq-REPEATER : goal.returns-else-block-eq-REPEATER
returns-else-block-eq-REPEATER c = block_none _ _ _ _ c.args.block (sym c.powers.ensures ∙ c.if-powers.false) (ne_eqb _ _ c.if-block-eq-REPEATER.false)
