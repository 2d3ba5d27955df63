-- `sink_fault` meets its contract: the endpoint, then the tail limit.
use Rattle.basics.specs.Tests.{test_fails, test-passes}
use Rattle.job_sheet.specs.Sheet.{sink_fault}
use Rattle.job_sheet.proofs.FaultLaws.{first-of-two, second-of-two}
use Rattle.job_sheet.proofs.faults.sink_fault.Goals as goal

pub returns-then-not-is_good : goal.returns-then-not-is_good
unfolding sink_fault
returns-then-not-is_good c = first-of-two _ c.endpoint_fault-fault.ensures (test_fails c.is_good.ensures c.if-not-is_good.true-raw)

pub returns : goal.returns
unfolding sink_fault
returns c = second-of-two c.endpoint_fault-fault.ensures (test-passes c.is_good.ensures c.if-not-is_good.false-raw) c.limit_fault.ensures
