-- `with_mark` meets its contract.
use borrow.Author.Tests.{eq-eqb, ne_eqb}
use Rattle.other_nets.proofs.protected.with_mark.Goals as goal

pub returns-then-more-eq-MARKED : goal.returns-then-more-eq-MARKED
returns-then-more-eq-MARKED c = rw (eq-eqb _ _ c.if-more-eq-MARKED.true)

pub returns-else-more-eq-MARKED : goal.returns-else-more-eq-MARKED
returns-else-more-eq-MARKED c = rw (ne_eqb _ _ c.if-more-eq-MARKED.false)
