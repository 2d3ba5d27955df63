-- `write_lengths` meets its contract: each round copies one length.
use Rattle.std.proofs.Common.{arith}
use Rattle.basics.specs.Copies.{copied_none, front-next}
use Rattle.other_nets.specs.Keeping.{each_copied}
use Rattle.other_nets.proofs.keeping.write_lengths.Goals as goal

pub loop-sink-init : goal.loop-sink-init
loop-sink-init c = copied_none

pub overflow_cast-out : goal.overflow_cast-out
overflow_cast-out c = omega (arith, c.requires.short.short _ c.loop-sink-test.true)

pub bounds-out-sink : goal.bounds-out-sink
bounds-out-sink c = omega (arith, c.loop-sink.invariant.kept, c.requires.max_sinks_in_bounds, c.requires.short.whole)

pub loop-sink-preserved : goal.loop-sink-preserved
loop-sink-preserved c = front-next _ _ _ (omega (arith, c.requires.short.whole)) c.requires.max_sinks_in_bounds c.loop-sink.invariant c.loop-sink-test.true

pub returns : goal.returns
returns c = each_copied c.requires.short.whole c.requires.max_sinks_in_bounds c.loop-sink.invariant c.loop-sink-test.false
