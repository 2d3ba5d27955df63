-- `detail_for` meets its contract, case by case.
use borrow.Author.Tests.{eq-eqb, ne_eqb}
use Rattle.several_nets.proofs.detail_for.Goals as goal

pub returns-then-verdict-ne-OVERLAP_NUMBER : goal.returns-then-verdict-ne-OVERLAP_NUMBER
returns-then-verdict-ne-OVERLAP_NUMBER c = rw (ne_eqb _ _ c.if-verdict-ne-OVERLAP_NUMBER.true)

pub returns-in-Ok : goal.returns-in-Ok
returns-in-Ok c = rw (eq-eqb _ _ c.if-verdict-ne-OVERLAP_NUMBER.false, c.in-Ok.is)

pub returns-in-Err : goal.returns-in-Err
returns-in-Err c = rw (eq-eqb _ _ c.if-verdict-ne-OVERLAP_NUMBER.false, c.in-Err.is)
