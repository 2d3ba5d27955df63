-- `write_sheet_told` meets its contract: so much of the output is lent as the values allow.
use mathlib.Core.Path.{sym}
use lib.ListN.{length}
use lib.Seq.{length-take-le}
use Rattle.basics.specs.Tests.{test_fails}
use Rattle.sheet_writer.specs.Export.{parts_told}
use Rattle.sheet_writer.specs.ExportLaws.{ends_ill, lent-inside, told_fit, told, source-whole, sinks-few}
use Rattle.sheet_writer.proofs.export.write_sheet_told.Goals as goal

pub returns-then-not-ends_good : goal.returns-then-not-ends_good
returns-then-not-ends_good c = ends_ill (parts_told c.args.wide c.args.high c.args.deep c.args.limit c.args.horizontal c.args.stair c.args.support c.args.run c.args.blocks.now c.args.conductors.now c.args.clearances.now c.args.terminals.now c.args.reserved.now c.args.source.now c.args.sinks.now) c.args.sheet.now c.args.values.now _ (test_fails c.ends_good.ensures c.if-not-ends_good.true-raw)

pub end_from-requires : goal.end_from-requires
end_from-requires c = source-whole _ (length c.args.sinks.now) c.ends_good.ensures c.if-not-ends_good.false-raw

pub sinks_of-requires : goal.sinks_of-requires
sinks_of-requires c = sinks-few (length c.args.source.now) _ c.ends_good.ensures c.if-not-ends_good.false-raw

pub slice_bounds-write_sheet-end : goal.slice_bounds-write_sheet-end
slice_bounds-write_sheet-end c = lent-inside (parts_told c.args.wide c.args.high c.args.deep c.args.limit c.args.horizontal c.args.stair c.args.support c.args.run c.args.blocks.now c.args.conductors.now c.args.clearances.now c.args.terminals.now c.args.reserved.now c.args.source.now c.args.sinks.now) c.args.sheet.now c.args.values.now c.ends_good.ensures c.if-not-ends_good.false-raw c.lent_bytes-lent.ensures

pub slice_bounds-write_sheet-end-2 : goal.slice_bounds-write_sheet-end-2
slice_bounds-write_sheet-end-2 c = sym (length-take-le _ _ (lent-inside (parts_told c.args.wide c.args.high c.args.deep c.args.limit c.args.horizontal c.args.stair c.args.support c.args.run c.args.blocks.now c.args.conductors.now c.args.clearances.now c.args.terminals.now c.args.reserved.now c.args.source.now c.args.sinks.now) c.args.sheet.now c.args.values.now c.ends_good.ensures c.if-not-ends_good.false-raw c.lent_bytes-lent.ensures))

pub tell-requires : goal.tell-requires
tell-requires c = told_fit (parts_told c.args.wide c.args.high c.args.deep c.args.limit c.args.horizontal c.args.stair c.args.support c.args.run c.args.blocks.now c.args.conductors.now c.args.clearances.now c.args.terminals.now c.args.reserved.now c.args.source.now c.args.sinks.now) c.args.sheet.now c.args.values.now c.ends_good.ensures c.if-not-ends_good.false-raw c.lent_bytes-lent.ensures (rw (c.as_index.ensures.0, c.end_from.ensures, c.sinks_of.ensures) at c.write_sheet-writing.ensures)

pub returns : goal.returns
returns c = told (parts_told c.args.wide c.args.high c.args.deep c.args.limit c.args.horizontal c.args.stair c.args.support c.args.run c.args.blocks.now c.args.conductors.now c.args.clearances.now c.args.terminals.now c.args.reserved.now c.args.source.now c.args.sinks.now) c.args.sheet.now c.args.values.now c.ends_good.ensures c.if-not-ends_good.false-raw c.lent_bytes-lent.ensures (rw (c.as_index.ensures.0, c.end_from.ensures, c.sinks_of.ensures) at c.write_sheet-writing.ensures) c.tell.ensures.value c.tell.ensures.values_after
