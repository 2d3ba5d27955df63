-- `copy_list` meets its contract: what is put, and zeros behind it.
use Rattle.sheet_writer.specs.Apart.{list_in}
use Rattle.sheet_writer.specs.ApartLaws.{list-long}
use Rattle.sheet_writer.specs.PromiseLaws.{zeros-behind}
use native.Mathlib.Omega.{arith}
use Rattle.sheet_writer.proofs.apart.copy_list.Goals as goal

pub copy_records-end-requires-clause-part_in_bounds : goal.copy_records-end-requires-clause-part_in_bounds
copy_records-end-requires-clause-part_in_bounds c = c.requires.part_in_bounds

pub copy_records-end-requires-clause-fits : goal.copy_records-end-requires-clause-fits
copy_records-end-requires-clause-fits c = record { place = omega (arith, list-long c.args.records c.args.sheet.now c.args.part, c.requires.count_in_bounds) }

pub offset_bounds-out-end : goal.offset_bounds-out-end
offset_bounds-out-end c = omega (arith, c.copy_records-end.ensures.ends, c.copy_records-end.ensures.same, list-long c.args.records c.args.sheet.now c.args.part, c.requires.count_in_bounds)

pub slice_bounds-fill-count : goal.slice_bounds-fill-count
slice_bounds-fill-count c = omega (arith, c.copy_records-end.ensures.ends, c.copy_records-end.ensures.same, list-long c.args.records c.args.sheet.now c.args.part, c.requires.count_in_bounds)

pub slice_bounds-fill-start : goal.slice_bounds-fill-start
slice_bounds-fill-start c = omega (arith, c.copy_records-end.ensures.ends, c.copy_records-end.ensures.same, list-long c.args.records c.args.sheet.now c.args.part, c.requires.count_in_bounds)

pub returns : goal.returns
returns c = zeros-behind c.copy_records-end.result (list_in c.args.records c.args.sheet.now c.args.part) c.args.out.now (omega (arith, c.copy_records-end.ensures.ends)) (omega (arith, c.copy_records-end.ensures.ends, list-long c.args.records c.args.sheet.now c.args.part, c.requires.count_in_bounds)) c.copy_records-end.ensures (c.fill.ensures.after (λ y e. e))
