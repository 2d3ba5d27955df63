-- `last_reset` meets its contract. The loop's invariant: the last repeater of those passed is known.
use Rattle.std.proofs.Common.{◌∙◌}
use borrow.Author.Tests.{eq-eqb, ne_eqb}
use Rattle.repeaters.specs.TailLaws.{last_none, last-next}
use Rattle.repeaters.proofs.tails.last_reset.Goals as goal
use Rattle.repeaters.proofs.tails.last_reset.Goals.{then-repeaters-as_index-eq-MARKED, else-repeaters-as_index-eq-MARKED}

pub loop-i-init : goal.loop-i-init
loop-i-init c = last_none

pub loop-i-preserved : goal.loop-i-preserved
loop-i-preserved c =
    last-next c.loop-i.invariant c.loop-i-test.true _ c.as_index.ensures.0 _ (elim c.if-repeaters-as_index-eq-MARKED.branch [ then-repeaters-as_index-eq-MARKED w ↦ w.last-is ∙ rw (eq-eqb _ 1 w.if-repeaters-as_index-eq-MARKED.true) | else-repeaters-as_index-eq-MARKED w ↦ w.last-is ∙ rw (ne_eqb _ 1 w.if-repeaters-as_index-eq-MARKED.false) ])
