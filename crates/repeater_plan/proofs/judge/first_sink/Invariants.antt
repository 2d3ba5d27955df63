-- `first_sink` meets its contract: the fault so far and the sinks that are left come to that of all.
use Rattle.job_sheet.specs.Sheet.{sink_fault}
use Rattle.repeater_plan.specs.JudgeLaws.{Scanned}
use Rattle.repeater_plan.proofs.judge.first_sink.Given as goal

abbrev pub invariant-loop-sink : goal.invariant-loop-sink
invariant-loop-sink l = Scanned (sink_fault l.room) l.sink-items l.initial.fault l.fault l.sink-index
