-- `take_apart` meets its contract: the promise, by its cases.
use Rattle.sheet_writer.specs.Apart.{lists}
use Rattle.sheet_writer.specs.ApartLaws.{parts-read, apart-unread, apart-short, blocks-fit, conductors-fit, clearances-fit, terminals-fit, reserved-fit, apart-done}
use Rattle.sheet_writer.proofs.apart.take_apart.Goals as goal

pub returns-then-not-is_good : goal.returns-then-not-is_good
returns-then-not-is_good c = apart-unread c.read_sheet-reading.ensures c.is_good.ensures (lists c.args.blocks.now c.args.conductors.now c.args.clearances.now c.args.terminals.now c.args.reserved.now) c.if-not-is_good.true-raw c.number.ensures

pub lists_fit-requires : goal.lists_fit-requires
lists_fit-requires c = (parts-read c.read_sheet-reading.ensures c.is_good.ensures c.if-not-is_good.false-raw).inside

pub returns-then-not-lists_fit : goal.returns-then-not-lists_fit
returns-then-not-lists_fit c = apart-short c.read_sheet-reading.ensures c.is_good.ensures c.if-not-is_good.false-raw (lists c.args.blocks.now c.args.conductors.now c.args.clearances.now c.args.terminals.now c.args.reserved.now) c.lists_fit.ensures c.if-not-lists_fit.true-raw

pub copy_list-requires-clause-part_in_bounds : goal.copy_list-requires-clause-part_in_bounds
copy_list-requires-clause-part_in_bounds c = (parts-read c.read_sheet-reading.ensures c.is_good.ensures c.if-not-is_good.false-raw).blocks

pub copy_list-requires-clause-count_in_bounds : goal.copy_list-requires-clause-count_in_bounds
copy_list-requires-clause-count_in_bounds c = blocks-fit c.read_sheet-reading.ensures c.is_good.ensures c.if-not-is_good.false-raw (lists c.args.blocks.now c.args.conductors.now c.args.clearances.now c.args.terminals.now c.args.reserved.now) c.lists_fit.ensures c.if-not-lists_fit.false-raw

pub copy_list-requires-2-clause-part_in_bounds : goal.copy_list-requires-2-clause-part_in_bounds
copy_list-requires-2-clause-part_in_bounds c = (parts-read c.read_sheet-reading.ensures c.is_good.ensures c.if-not-is_good.false-raw).conductors

pub copy_list-requires-2-clause-count_in_bounds : goal.copy_list-requires-2-clause-count_in_bounds
copy_list-requires-2-clause-count_in_bounds c = conductors-fit c.read_sheet-reading.ensures c.is_good.ensures c.if-not-is_good.false-raw (lists c.args.blocks.now c.args.conductors.now c.args.clearances.now c.args.terminals.now c.args.reserved.now) c.lists_fit.ensures c.if-not-lists_fit.false-raw

pub copy_list-requires-3-clause-part_in_bounds : goal.copy_list-requires-3-clause-part_in_bounds
copy_list-requires-3-clause-part_in_bounds c = (parts-read c.read_sheet-reading.ensures c.is_good.ensures c.if-not-is_good.false-raw).clearances

pub copy_list-requires-3-clause-count_in_bounds : goal.copy_list-requires-3-clause-count_in_bounds
copy_list-requires-3-clause-count_in_bounds c = clearances-fit c.read_sheet-reading.ensures c.is_good.ensures c.if-not-is_good.false-raw (lists c.args.blocks.now c.args.conductors.now c.args.clearances.now c.args.terminals.now c.args.reserved.now) c.lists_fit.ensures c.if-not-lists_fit.false-raw

pub copy_list-requires-4-clause-part_in_bounds : goal.copy_list-requires-4-clause-part_in_bounds
copy_list-requires-4-clause-part_in_bounds c = (parts-read c.read_sheet-reading.ensures c.is_good.ensures c.if-not-is_good.false-raw).terminals

pub copy_list-requires-4-clause-count_in_bounds : goal.copy_list-requires-4-clause-count_in_bounds
copy_list-requires-4-clause-count_in_bounds c = terminals-fit c.read_sheet-reading.ensures c.is_good.ensures c.if-not-is_good.false-raw (lists c.args.blocks.now c.args.conductors.now c.args.clearances.now c.args.terminals.now c.args.reserved.now) c.lists_fit.ensures c.if-not-lists_fit.false-raw

pub copy_list-requires-5-clause-part_in_bounds : goal.copy_list-requires-5-clause-part_in_bounds
copy_list-requires-5-clause-part_in_bounds c = (parts-read c.read_sheet-reading.ensures c.is_good.ensures c.if-not-is_good.false-raw).reserved

pub copy_list-requires-5-clause-count_in_bounds : goal.copy_list-requires-5-clause-count_in_bounds
copy_list-requires-5-clause-count_in_bounds c = reserved-fit c.read_sheet-reading.ensures c.is_good.ensures c.if-not-is_good.false-raw (lists c.args.blocks.now c.args.conductors.now c.args.clearances.now c.args.terminals.now c.args.reserved.now) c.lists_fit.ensures c.if-not-lists_fit.false-raw

pub returns : goal.returns
returns c = apart-done c.read_sheet-reading.ensures c.is_good.ensures c.if-not-is_good.false-raw (lists c.args.blocks.now c.args.conductors.now c.args.clearances.now c.args.terminals.now c.args.reserved.now) c.lists_fit.ensures c.if-not-lists_fit.false-raw c.copy_list.ensures c.copy_list-2.ensures c.copy_list-3.ensures c.copy_list-4.ensures c.copy_list-5.ensures
