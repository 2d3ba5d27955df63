-- `asks_why` meets its contract: its tests are the definition's.
use borrow.Author.Tests.{eq-eqb, ne_eqb}
use Rattle.sink_why.proofs.entry.asks_why.Goals as goal

pub returns-then-number-eq-QUEUE_FULL_NUMBER : goal.returns-then-number-eq-QUEUE_FULL_NUMBER
returns-then-number-eq-QUEUE_FULL_NUMBER c = rw (eq-eqb _ _ c.if-number-eq-QUEUE_FULL_NUMBER.true)

pub returns : goal.returns
returns c = rw (ne_eqb _ _ c.if-number-eq-QUEUE_FULL_NUMBER.false)
