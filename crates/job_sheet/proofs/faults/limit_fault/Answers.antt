-- `limit_fault` meets its contract: its test is the definition's.
use mathlib.Core.Path.{sym, ◌∙◌}
use Rattle.job_sheet.proofs.faults.limit_fault.Goals as goal

pub returns-then-limit_within : goal.returns-then-limit_within
returns-then-limit_within c = rw (sym c.limit_within.ensures ∙ c.if-limit_within.true)

pub returns-else-limit_within : goal.returns-else-limit_within
returns-else-limit_within c = rw (sym c.limit_within.ensures ∙ c.if-limit_within.false)
