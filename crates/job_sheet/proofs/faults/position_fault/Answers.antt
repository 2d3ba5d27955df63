-- `position_fault` meets its contract: its test is the definition's.
use mathlib.Core.Path.{sym, ◌∙◌}
use Rattle.job_sheet.proofs.faults.position_fault.Goals as goal

pub returns-then-within : goal.returns-then-within
returns-then-within c = rw (sym c.within.ensures ∙ c.if-within.true)

pub returns-else-within : goal.returns-else-within
returns-else-within c = rw (sym c.within.ensures ∙ c.if-within.false)
