-- `write_lengths` meets its contract: each round copies one length.
use Rattle.basics.specs.Copies.{Copied}
use Rattle.job_sheet.specs.Sheet.{max_sinks}
use Rattle.other_nets.proofs.keeping.write_lengths.Given as goal

abbrev pub invariant-loop-sink : goal.invariant-loop-sink
invariant-loop-sink l = Copied l.fn.lengths.each l.initial.out 0 max_sinks l.sink l.out
