-- `first_fault` meets its contract: the fault so far and the records that are left come to what is asked for.
use Prim.Native.Nat.{◌/◌}
use lib.ListN.{length}
use Rattle.basics.specs.Tests.{test_fails, test-passes}
use Rattle.sheet_writer.specs.Faults.{scan_stop, scan_done, scan_on, scan_first, numbers_some, record_inside}
use native.Mathlib.Omega.{arith}
use Rattle.std.proofs.Common.{◌≡◌, ◌*◌, ◌+◌, ◌/◌, ◌-◌, length}
use Rattle.sheet_writer.proofs.faults.first_fault.Goals as goal

pub nonzero_div-k-end : goal.nonzero_div-k-end
nonzero_div-k-end c = numbers_some c.args.records _ c.numbers-size.ensures

pub loop-k-init : goal.loop-k-init
loop-k-init c =
    let first : c.numbers-size.result * 0 ≡ 0 = omega arith in
    let all : length c.args.numbers.now / c.numbers-size.result - 0 ≡ length c.args.numbers.now / c.numbers-size.result = omega arith in
    rw (first, all) (scan_first _ c.args.records _ _ c.numbers-size.ensures)

pub returns-then-not-is_good : goal.returns-then-not-is_good
returns-then-not-is_good c = scan_stop c.loop-k.invariant (test_fails c.is_good.ensures c.if-not-is_good.true-raw)

pub record_fault-fault-requires : goal.record_fault-fault-requires
record_fault-fault-requires c = rw (← c.numbers-size.ensures) (record_inside c.loop-k.invariant (omega arith))

pub loop-k-preserved : goal.loop-k-preserved
loop-k-preserved c =
    let next : c.numbers-size.result * c.loop-k.k + c.numbers-size.result ≡ c.numbers-size.result * (c.loop-k.k + 1) = omega arith in
    let left : length c.args.numbers.now / c.numbers-size.result - c.loop-k.k - 1 ≡ length c.args.numbers.now / c.numbers-size.result - (c.loop-k.k + 1) = omega arith in
    rw (next, left) at (scan_on c.loop-k.invariant (test-passes c.is_good.ensures c.if-not-is_good.false-raw) (omega arith) _ c.record_fault-fault.ensures)

pub returns : goal.returns
returns c = scan_done c.loop-k.invariant (omega arith)
