-- `read_function` meets its contract: judged in order, cleared, read, and cleared again after a bad line.
use mathlib.Core.Path.{sym, ◌∙◌}
use native.Mathlib.Omega.{arith}
use lib.ListN.{length}
use Rattle.basics.specs.Tests.{test_fails, test-passes}
use Rattle.basics.specs.Zeros.{zeros-long}
use Rattle.room.specs.RoomLaws.{good}
use Rattle.function_file.specs.ReadLaws.{read-sides, read-buffer, read_whole, read-bad, enough-is}
use Rattle.function_file.proofs.reading.read_function.Goals as goal

pub returns-then-not-good : goal.returns-then-not-good
returns-then-not-good c = read-sides c.args.room c.args.text.now c.args.kinds.now c.args.facings.now (test_fails c.good.ensures c.if-not-good.true-raw)

pub enough-requires : goal.enough-requires
enough-requires c = good _ (test-passes c.good.ensures c.if-not-good.false-raw)

pub returns-then-not-enough : goal.returns-then-not-enough
returns-then-not-enough c = read-buffer c.args.room c.args.text.now c.args.kinds.now c.args.facings.now (test-passes c.good.ensures c.if-not-good.false-raw) (test_fails c.enough.ensures c.if-not-enough.true-raw)

pub read_lines-read-requires-clause-good : goal.read_lines-read-requires-clause-good
read_lines-read-requires-clause-good c = let e = enough-is c.args.room (length c.args.kinds.now) (length c.args.facings.now) (test-passes c.enough.ensures c.if-not-enough.false-raw) in good _ (test-passes c.good.ensures c.if-not-good.false-raw)

pub read_lines-read-requires-clause-room_in_bounds : goal.read_lines-read-requires-clause-room_in_bounds
read_lines-read-requires-clause-room_in_bounds c = let e = enough-is c.args.room (length c.args.kinds.now) (length c.args.facings.now) (test-passes c.enough.ensures c.if-not-enough.false-raw) in (omega (arith, e.0, zeros-long {n = length c.args.kinds.now} c.clear.ensures), omega (arith, e.1, zeros-long {n = length c.args.facings.now} c.clear-2.ensures))

pub returns-then-is_err : goal.returns-then-is_err
returns-then-is_err c = read-bad c.args.room c.args.text.now c.args.kinds.now c.args.facings.now (test-passes c.good.ensures c.if-not-good.false-raw) (test-passes c.enough.ensures c.if-not-enough.false-raw) c.clear.ensures c.clear-2.ensures c.read_lines-read.ensures (sym c.is_err.ensures.value ∙ c.if-is_err.true) c.clear-then-is_err.ensures c.clear-then-is_err-2.ensures

pub returns-else-is_err : goal.returns-else-is_err
returns-else-is_err c = read_whole c.args.room c.args.text.now c.args.kinds.now c.args.facings.now (test-passes c.good.ensures c.if-not-good.false-raw) (test-passes c.enough.ensures c.if-not-enough.false-raw) c.clear.ensures c.clear-2.ensures c.read_lines-read.ensures (sym c.is_err.ensures.value ∙ c.if-is_err.false)
