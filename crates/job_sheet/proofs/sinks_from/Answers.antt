-- `sinks_from` meets its contract: what is gathered so far stands before places that hold nothing.
use native.Mathlib.Omega.{arith}
use Rattle.job_sheet.proofs.ScanLaws.{gather_on, gather_near, gather_done}
use Rattle.job_sheet.proofs.sinks_from.Goals as goal

pub loop-k-init : goal.loop-k-init
loop-k-init c = record { same = rw c.no_sink-ends.ensures; so_far = omega arith }

pub overflow_mul-size : goal.overflow_mul-size
overflow_mul-size c = omega (arith, gather_near c.loop-k.invariant c.loop-k-test.true c.requires.1, c.well_formed)

pub overflow_add-from : goal.overflow_add-from
overflow_add-from c = omega (arith, gather_near c.loop-k.invariant c.loop-k-test.true c.requires.1, c.well_formed)

pub sink_from-requires : goal.sink_from-requires
sink_from-requires c = omega (arith, gather_near c.loop-k.invariant c.loop-k-test.true c.requires.1, c.well_formed)

pub offset_bounds-ends-k : goal.offset_bounds-ends-k
offset_bounds-ends-k c = omega (arith, c.requires)

pub bounds-ends-k : goal.bounds-ends-k
bounds-ends-k c = omega (arith, c.requires)

pub loop-k-preserved : goal.loop-k-preserved
loop-k-preserved c = gather_on c.loop-k.invariant c.loop-k-test.true c.requires.0 _ c.sink_from.ensures

pub returns : goal.returns
returns c = gather_done _ _ c.args.part _ _ c.loop-k.invariant c.loop-k-test.false
