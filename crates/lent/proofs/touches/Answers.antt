-- `touches` meets its contract.
use borrow.Author.Tests.{eq-eqb, ne_eqb}
use Rattle.lent.proofs.touches.Goals as goal

pub returns-then-number-eq-DONE_NUMBER : goal.returns-then-number-eq-DONE_NUMBER
returns-then-number-eq-DONE_NUMBER c = rw (eq-eqb _ _ c.if-number-eq-DONE_NUMBER.true)

pub returns-else-number-eq-DONE_NUMBER : goal.returns-else-number-eq-DONE_NUMBER
returns-else-number-eq-DONE_NUMBER c = rw (ne_eqb _ _ c.if-number-eq-DONE_NUMBER.false)
