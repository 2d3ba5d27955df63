-- `lay_repeaters` meets its contract. The loop's invariant: the repeaters left make of the room of now what all make of it at the start.
use borrow.Author.Tests.{eq-eqb, ne_eqb}
use Rattle.laying.specs.PassingLaws.{so-first, so-met, so-missed, so-held, so-last}
use Rattle.laying.proofs.directions.lay_repeaters.Goals as goal
use Rattle.laying.proofs.directions.lay_repeaters.Goals.{then-mark-eq-MARKED, else-mark-eq-MARKED}

pub loop-cell-init : goal.loop-cell-init
loop-cell-init c = so-first _ _ _ _ _

pub lay_repeater-requires-clause-room_held : goal.lay_repeater-requires-clause-room_held
lay_repeater-requires-clause-room_held c = so-held c.loop-cell.invariant c.requires.room_held

pub lay_repeater-requires-clause-cell_bound : goal.lay_repeater-requires-clause-cell_bound
lay_repeater-requires-clause-cell_bound c = rw c.requires.repeaters_len at c.loop-cell-test.true

pub returns : goal.returns
returns c = so-last c.loop-cell.invariant (rw c.requires.repeaters_len at c.loop-cell-test.false)

pub loop-cell-preserved : goal.loop-cell-preserved
loop-cell-preserved c =
    let inside = rw c.requires.repeaters_len at c.loop-cell-test.true in
    elim c.if-mark-eq-MARKED.branch [
      | then-mark-eq-MARKED w ↦ rw (w.kinds-is, w.facings-is) (so-met c.loop-cell.invariant inside (eq-eqb _ 1 w.if-mark-eq-MARKED.true) w.lay_repeater.auto.kinds w.lay_repeater.auto.facings w.lay_repeater.ensures)
      | else-mark-eq-MARKED w ↦ rw (w.kinds-is, w.facings-is) (so-missed c.loop-cell.invariant inside (ne_eqb _ 1 w.if-mark-eq-MARKED.false))
    ]
