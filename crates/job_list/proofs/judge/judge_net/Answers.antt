-- `judge_net` meets its contract: its tests are the definition's, in the same order.
use native.Mathlib.Omega.{arith}
use Rattle.basics.specs.Tests.{test_fails, test-passes}
use Rattle.job_sheet.proofs.Theorems.{accepted-by}
use Rattle.outset.specs.SetOutLaws.{good-room}
use Rattle.job_list.specs.JudgeLaws.{net-elsewhere, net-refused, net-unlent, net-ends}
use Rattle.job_list.proofs.judge.judge_net.Goals as goal

pub returns-then-not-same_ground : goal.returns-then-not-same_ground
returns-then-not-same_ground c = net-elsewhere _ _ _ _ (test_fails c.same_ground.ensures c.if-not-same_ground.true-raw) c.due_alone.ensures

pub returns-then-not-is_good : goal.returns-then-not-is_good
returns-then-not-is_good c = net-refused _ _ _ _ (λ i. omega (arith, c.shared_slice_known-2-1.given i)) (test-passes c.same_ground.ensures c.if-not-same_ground.false-raw) c.read_sheet-reading.ensures (test_fails c.is_good.ensures c.if-not-is_good.true-raw) _ c.number.ensures c.due_alone-then-not-is_good.ensures

pub memory_good-requires : goal.memory_good-requires
memory_good-requires c = good-room (accepted-by c.read_sheet-reading.ensures (test-passes c.is_good.ensures c.if-not-is_good.false-raw))

pub returns-then-not-memory_good : goal.returns-then-not-memory_good
returns-then-not-memory_good c = net-unlent _ _ _ _ (λ i. omega (arith, c.shared_slice_known-2-1.given i)) (test-passes c.same_ground.ensures c.if-not-same_ground.false-raw) c.read_sheet-reading.ensures (test-passes c.is_good.ensures c.if-not-is_good.false-raw) (accepted-by c.read_sheet-reading.ensures (test-passes c.is_good.ensures c.if-not-is_good.false-raw)) (test_fails c.memory_good.ensures c.if-not-memory_good.true-raw) c.due_alone-then-not-memory_good.ensures

pub ends_due-requires : goal.ends_due-requires
ends_due-requires c = accepted-by c.read_sheet-reading.ensures (test-passes c.is_good.ensures c.if-not-is_good.false-raw)

pub returns : goal.returns
returns c = net-ends _ _ _ _ (λ i. omega (arith, c.shared_slice_known-2-1.given i)) (test-passes c.same_ground.ensures c.if-not-same_ground.false-raw) c.read_sheet-reading.ensures (test-passes c.is_good.ensures c.if-not-is_good.false-raw) (accepted-by c.read_sheet-reading.ensures (test-passes c.is_good.ensures c.if-not-is_good.false-raw)) (test-passes c.memory_good.ensures c.if-not-memory_good.false-raw) c.ends_due.ensures
