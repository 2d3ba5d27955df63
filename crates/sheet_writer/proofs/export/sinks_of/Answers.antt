-- `sinks_of` meets its contract: what is gathered so far stands before places that hold nothing.
use native.Mathlib.Nat.{mul-div-le}
use lib.ListN.{length}
use Rattle.sheet_writer.specs.Export.{sink_numbers}
use Rattle.sheet_writer.specs.ExportLaws.{gather_on, gather_done}
use native.Mathlib.Omega.{arith}
use Rattle.sheet_writer.proofs.export.sinks_of.Goals as goal

pub loop-k-init : goal.loop-k-init
loop-k-init c = record { same = rw c.no_sink-ends.ensures; so_far = omega arith }

pub overflow_mul-k : goal.overflow_mul-k
overflow_mul-k c = omega (arith, c.requires)

pub sink_from-requires : goal.sink_from-requires
sink_from-requires c = omega (arith, mul-div-le (length c.args.numbers.now) sink_numbers, c.loop-k-test.true)

pub offset_bounds-ends-k : goal.offset_bounds-ends-k
offset_bounds-ends-k c = omega (arith, c.requires)

pub bounds-ends-k : goal.bounds-ends-k
bounds-ends-k c = omega (arith, c.requires)

pub loop-k-preserved : goal.loop-k-preserved
loop-k-preserved c = gather_on c.loop-k.invariant c.loop-k-test.true c.requires _ c.sink_from.ensures

pub returns : goal.returns
returns c = gather_done _ _ _ c.loop-k.invariant c.loop-k-test.false
