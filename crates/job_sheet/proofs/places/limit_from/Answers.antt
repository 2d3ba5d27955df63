-- `limit_from` meets its contract: one byte where limits are carried.
use Rattle.job_sheet.proofs.places.limit_from.Goals as goal

pub returns-then-limits : goal.returns-then-limits
returns-then-limits c = rw c.if-limits.true c.byte.ensures
