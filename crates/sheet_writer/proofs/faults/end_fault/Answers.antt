-- `end_fault` meets its contract: a fault found before stands.
use mathlib.Core.Path.{sym, ◌∙◌}
use Rattle.basics.specs.Tests.{test_fails, test-passes}
use Rattle.job_sheet.proofs.FaultLaws.{fault_first, good-first, only-first}
use Rattle.sheet_writer.proofs.faults.end_fault.Goals as goal

pub returns-then-not-is_good : goal.returns-then-not-is_good
returns-then-not-is_good c = sym (fault_first _ _ (test_fails c.is_good.ensures c.if-not-is_good.true-raw))

pub returns : goal.returns
returns c = c.endpoint_fault.ensures ∙ sym (only-first _) ∙ sym (good-first _ _ (test-passes c.is_good.ensures c.if-not-is_good.false-raw))
