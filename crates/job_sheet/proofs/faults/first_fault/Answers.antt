-- `first_fault` meets its contract: the fault so far and the records that are left come to what is asked for.
use Rattle.basics.specs.Tests.{test_fails, test-passes}
use native.Mathlib.Omega.{arith}
use Rattle.job_sheet.proofs.ScanLaws.{scan_begins, scan_stop, scan_done, scan_on, scan_next}
use Rattle.job_sheet.proofs.faults.first_fault.Goals as goal

pub loop-i-init : goal.loop-i-init
loop-i-init c = scan_begins _ _ _ _ _ c.args.part c.requires

pub returns-then-not-is_good : goal.returns-then-not-is_good
returns-then-not-is_good c = scan_stop c.loop-i.invariant (test_fails c.is_good.ensures c.if-not-is_good.true-raw)

pub loop-i-preserved : goal.loop-i-preserved
loop-i-preserved c = scan_next _ (scan_on c.loop-i.invariant (test-passes c.is_good.ensures c.if-not-is_good.false-raw) (omega (arith, c.loop-i-test.true)) _ c.record_fault-fault.ensures)

pub returns : goal.returns
returns c = scan_done c.loop-i.invariant (omega (arith, c.loop-i-test.false))
