-- `position_from` meets its contract: each part is a coordinate, of two bytes or one.
use Rattle.job_sheet.proofs.places.position_from.Goals as goal

pub returns-then-long : goal.returns-then-long
returns-then-long c = rw c.if-long.true (λ i. record { x = c.two_bytes.ensures i; y = c.two_bytes-then-long.ensures i; z = c.two_bytes-then-long-2.ensures i })

pub returns-else-long : goal.returns-else-long
returns-else-long c = rw c.if-long.false (λ i. record { x = c.byte.ensures i; y = c.byte-else-long.ensures i; z = c.byte-else-long-2.ensures i })
