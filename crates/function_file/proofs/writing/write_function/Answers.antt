-- `write_function` meets its contract: judged in order, cleared, written, and cleared again where it does not fit.
use mathlib.Core.Path.{sym, ◌∙◌}
use lib.ListN.{length}
use Rattle.basics.specs.Tests.{test_fails, test-passes}
use Rattle.room.specs.RoomLaws.{good}
use Rattle.function_file.specs.WriteLaws.{write_sides, write_buffer, write_code, exact, ends-short, ends-whole}
use Rattle.function_file.proofs.writing.write_function.Goals as goal

pub returns-then-not-good : goal.returns-then-not-good
returns-then-not-good c = write_sides c.args.room c.args.kinds.now c.args.facings.now c.args.text.now (test_fails c.good.ensures c.if-not-good.true-raw)

pub exactly-requires : goal.exactly-requires
exactly-requires c = good _ (test-passes c.good.ensures c.if-not-good.false-raw)

pub returns-then-not-exactly : goal.returns-then-not-exactly
returns-then-not-exactly c = write_buffer c.args.room c.args.kinds.now c.args.facings.now c.args.text.now (test-passes c.good.ensures c.if-not-good.false-raw) (test_fails c.exactly.ensures c.if-not-exactly.true-raw)

pub blocks_known-requires : goal.blocks_known-requires
blocks_known-requires c = let e = exact c.args.room (length c.args.kinds.now) (length c.args.facings.now) (test-passes c.exactly.ensures c.if-not-exactly.false-raw) in e.1 ∙ sym e.0

pub returns-then-not-blocks_known : goal.returns-then-not-blocks_known
returns-then-not-blocks_known c = write_code c.args.room c.args.kinds.now c.args.facings.now c.args.text.now (test-passes c.good.ensures c.if-not-good.false-raw) (test-passes c.exactly.ensures c.if-not-exactly.false-raw) (test_fails c.blocks_known.ensures c.if-not-blocks_known.true-raw)

pub put_cells-length-requires-clause-good : goal.put_cells-length-requires-clause-good
put_cells-length-requires-clause-good c = good _ (test-passes c.good.ensures c.if-not-good.false-raw)

pub put_cells-length-requires-clause-kinds_len : goal.put_cells-length-requires-clause-kinds_len
put_cells-length-requires-clause-kinds_len c = exact c.args.room (length c.args.kinds.now) (length c.args.facings.now) (test-passes c.exactly.ensures c.if-not-exactly.false-raw)

pub put_cells-length-requires-clause-facings_value : goal.put_cells-length-requires-clause-facings_value
put_cells-length-requires-clause-facings_value c = (test-passes c.blocks_known.ensures c.if-not-blocks_known.false-raw)

pub returns-then-text-length : goal.returns-then-text-length
returns-then-text-length c = ends-short c.args.room c.args.kinds.now c.args.facings.now c.args.text.now (test-passes c.good.ensures c.if-not-good.false-raw) (test-passes c.exactly.ensures c.if-not-exactly.false-raw) (test-passes c.blocks_known.ensures c.if-not-blocks_known.false-raw) c.clear.ensures c.put_cells-length.ensures c.if-text-length.true c.clear-then-text-length.ensures

pub returns : goal.returns
returns c = ends-whole c.args.room c.args.kinds.now c.args.facings.now c.args.text.now (test-passes c.good.ensures c.if-not-good.false-raw) (test-passes c.exactly.ensures c.if-not-exactly.false-raw) (test-passes c.blocks_known.ensures c.if-not-blocks_known.false-raw) c.clear.ensures c.put_cells-length.ensures c.if-text-length.false
