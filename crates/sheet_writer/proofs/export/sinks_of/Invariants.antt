-- `sinks_of` meets its contract: what is gathered so far stands before places that hold nothing.
use Rattle.sheet_writer.specs.ExportLaws.{Gathered}
use Rattle.sheet_writer.proofs.export.sinks_of.Given as goal

abbrev pub invariant-loop-k : goal.invariant-loop-k
invariant-loop-k l = Gathered l.numbers l.count l.ends l.k
