-- `block_from` meets its contract: each part is one of the definition's.
use Rattle.job_sheet.proofs.places.block_from.Goals as goal

pub returns-then-long : goal.returns-then-long
returns-then-long c = rw c.if-long.true (λ i. record { node = c.two_bytes.ensures i; at = c.position_from.ensures i; kind = c.byte.ensures i; facing = c.byte-then-long.ensures i })

pub returns-else-long : goal.returns-else-long
returns-else-long c = rw c.if-long.false (λ i. record { node = c.two_bytes-else-long.ensures i; at = c.position_from-else-long.ensures i; kind = c.byte-else-long.ensures i; facing = c.byte-else-long-2.ensures i })
