-- `put_records` meets its contract: what is put, and what is left to put, are the whole.
use Rattle.sheet_writer.specs.Faults.{numbers_some}
use Rattle.sheet_writer.specs.TextLaws.{recording_begun, record_inside, record_fits, recording_on, recording_done}
use native.Mathlib.Omega.{arith}
use Rattle.std.proofs.Common.{◌≡◌, ◌*◌, ◌+◌, ◌/◌, ◌-◌, length}
use Rattle.sheet_writer.proofs.puts.put_records.Goals as goal

pub nonzero_div-k-end : goal.nonzero_div-k-end
nonzero_div-k-end c = numbers_some c.args.records _ c.numbers-size.ensures

pub loop-k-init : goal.loop-k-init
loop-k-init c =
    let first : c.numbers-size.result * 0 ≡ 0 = omega arith in
    let all : length c.args.numbers.now / c.numbers-size.result - 0 ≡ length c.args.numbers.now / c.numbers-size.result = omega arith in
    rw (first, all) (recording_begun c.args.long c.args.records _ c.numbers-size.ensures)

pub put_record-end-requires-clause-records_in_bounds : goal.put_record-end-requires-clause-records_in_bounds
put_record-end-requires-clause-records_in_bounds c = rw (← c.numbers-size.ensures) (record_inside c.loop-k.invariant (omega arith))

pub put_record-end-requires-clause-fits : goal.put_record-end-requires-clause-fits
put_record-end-requires-clause-fits c = record_fits c.loop-k.invariant (omega arith) c.requires

pub loop-k-preserved : goal.loop-k-preserved
loop-k-preserved c =
    let next : c.numbers-size.result * c.loop-k.k + c.numbers-size.result ≡ c.numbers-size.result * (c.loop-k.k + 1) = omega arith in
    let left : length c.args.numbers.now / c.numbers-size.result - c.loop-k.k - 1 ≡ length c.args.numbers.now / c.numbers-size.result - (c.loop-k.k + 1) = omega arith in
    rw (next, left) at (recording_on c.loop-k.invariant (omega arith) c.put_record-end.ensures)

pub returns : goal.returns
returns c = recording_done c.loop-k.invariant (omega arith)
