-- `copy_records` meets its contract: what is put, and what is left to put, are the whole.
use Rattle.sheet_writer.specs.ApartLaws.{copying_begun}
use Rattle.sheet_writer.specs.TextLaws.{record_inside, record_fits, recording_on, recording_done}
use native.Mathlib.Omega.{arith}
use Rattle.std.proofs.Common.{◌≡◌, ◌*◌, ◌+◌, ◌-◌}
use Rattle.sheet_writer.proofs.apart.copy_records.Goals as goal

pub loop-k-init : goal.loop-k-init
loop-k-init c =
    let first : c.args.part.from + c.args.part.size * 0 ≡ c.args.part.from = omega arith in
    let all : c.args.part.count - 0 ≡ c.args.part.count = omega arith in
    rw (first, all) (copying_begun c.args.records _ c.args.part c.requires.part_in_bounds)

pub copy_record-end-requires-clause-place_bound : goal.copy_record-end-requires-clause-place_bound
copy_record-end-requires-clause-place_bound c = omega (arith, record_inside c.loop-k.invariant (omega arith), c.well_formed)

pub copy_record-end-requires-clause-fits : goal.copy_record-end-requires-clause-fits
copy_record-end-requires-clause-fits c = record_fits c.loop-k.invariant (omega arith) c.requires.fits

pub loop-k-preserved : goal.loop-k-preserved
loop-k-preserved c =
    let next : c.args.part.from + c.args.part.size * c.loop-k.k + c.args.part.size ≡ c.args.part.from + c.args.part.size * (c.loop-k.k + 1) = omega arith in
    let left : c.args.part.count - c.loop-k.k - 1 ≡ c.args.part.count - (c.loop-k.k + 1) = omega arith in
    rw (next, left) at (recording_on c.loop-k.invariant (omega arith) c.copy_record-end.ensures)

pub returns : goal.returns
returns c = recording_done c.loop-k.invariant (omega arith)
