-- `mark_keepouts` meets its contract: each round marks the keepout of one conductor.
use Rattle.routing_resources.specs.MarkLaws.{marking-none, marking-on, marking-all}
use Rattle.job_sheet.specs.Places.{no_position}
use Rattle.causes.specs.Causes.{beside_conductor}
use Rattle.outset.specs.OutsetLaws.{listed-within, listed_in}
use Rattle.job_sheet.specs.RecordLaws.{positions-long}
use Rattle.causes.proofs.reasons.mark_keepouts.Goals as goal

pub loop-i-init : goal.loop-i-init
loop-i-init c = marking-none _ _ _

pub position_at-at-requires : goal.position_at-at-requires
position_at-at-requires c = (c.loop-i-test.true, c.requires.list.inside)

pub cell-requires-clause-good : goal.cell-requires-clause-good
cell-requires-clause-good c =
    let pre = c.requires in pre.good

pub cell-requires-clause-within : goal.cell-requires-clause-within
cell-requires-clause-within c =
    let pre = c.requires in listed-within pre _ c.loop-i-test.true _ c.position_at-at.ensures

pub electrical_keepout_for_wire-requires-clause-good : goal.electrical_keepout_for_wire-requires-clause-good
electrical_keepout_for_wire-requires-clause-good c =
    let pre = c.requires in pre.good

pub electrical_keepout_for_wire-requires-clause-cell_bound : goal.electrical_keepout_for_wire-requires-clause-cell_bound
electrical_keepout_for_wire-requires-clause-cell_bound c =
    let pre = c.requires in listed_in pre _ c.loop-i-test.true _ c.position_at-at.ensures _ c.cell.ensures

pub electrical_keepout_for_wire-requires-clause-marks_len : goal.electrical_keepout_for_wire-requires-clause-marks_len
electrical_keepout_for_wire-requires-clause-marks_len c =
    let pre = c.requires in rw c.loop-i.invariant.long pre.long

pub loop-i-preserved : goal.loop-i-preserved
loop-i-preserved c = marking-on (beside_conductor _) _ c.loop-i.invariant no_position _ c.position_at-at.ensures (rw (positions-long _ _) c.loop-i-test.true) (rw c.cell.ensures at c.electrical_keepout_for_wire.ensures)

pub returns : goal.returns
returns c = marking-all (beside_conductor _) _ c.loop-i.invariant (rw (positions-long _ _) c.loop-i-test.false)
