-- `sinks_fault` meets its contract: the fault so far and the sinks that are left come to that of all.
use Rattle.std.proofs.Common.{refl}
use Rattle.sheet_writer.specs.Faults.{sinks_on, sinks-done}
use Rattle.sheet_writer.proofs.faults.sinks_fault.Goals as goal

pub loop-sink-init : goal.loop-sink-init
loop-sink-init c = record { same = refl }

pub loop-sink-preserved : goal.loop-sink-preserved
loop-sink-preserved c = sinks_on _ _ _ c.loop-sink.invariant c.loop-sink-test.true _ c.one_sink_fault-fault.ensures

pub returns : goal.returns
returns c = sinks-done _ _ _ c.loop-sink.invariant c.loop-sink-test.false
