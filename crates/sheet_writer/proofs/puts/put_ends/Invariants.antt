-- `put_ends` meets its contract: what is put, and what is left to put, are the whole.
use Rattle.std.proofs.Common.{drop}
use Rattle.putting.specs.Putting.{PutSoFar}
use Rattle.sheet_writer.specs.Texts.{ends_text}
use Rattle.sheet_writer.proofs.puts.put_ends.Given as goal

abbrev pub invariant-loop-sink : goal.invariant-loop-sink
invariant-loop-sink l = PutSoFar l.initial.out l.at (ends_text l.version l.sink-items) (ends_text l.version (drop l.sink-index l.sink-items)) l.out l.end
