-- `sinks_fault` meets its contract: the fault so far and the sinks that are left come to that of all.
use Rattle.job_sheet.specs.Sheet.{sink_fault}
use Rattle.sheet_writer.specs.Faults.{SinksScanned}
use Rattle.sheet_writer.proofs.faults.sinks_fault.Given as goal

abbrev pub invariant-loop-sink : goal.invariant-loop-sink
invariant-loop-sink l = SinksScanned (sink_fault l.room) l.sink-items l.initial.fault l.fault l.sink-index
