-- `lent_bytes` meets its contract.
use borrow.Author.Tests.{le-leb, lt-leb}
use Rattle.sheet_writer.proofs.export.lent_bytes.Goals as goal

pub returns-then-values-lt-VALUES : goal.returns-then-values-lt-VALUES
returns-then-values-lt-VALUES c = rw (lt-leb _ _ c.if-values-lt-VALUES.true)

pub returns-else-values-lt-VALUES : goal.returns-else-values-lt-VALUES
returns-else-values-lt-VALUES c = rw (le-leb _ _ c.if-values-lt-VALUES.false)
