-- `put_records` meets its contract: what is put, and what is left to put, are the whole.
use Rattle.sheet_writer.specs.Texts.{bytes_from, records_text}
use Rattle.sheet_writer.specs.TextLaws.{Recording}
use Rattle.std.proofs.Common.{◌*◌, ◌/◌, ◌-◌, length}
use Rattle.sheet_writer.proofs.puts.put_records.Given as goal

abbrev pub invariant-loop-k : goal.invariant-loop-k
invariant-loop-k l = Recording (bytes_from l.long l.records) l.size l.numbers l.initial.out l.at (records_text l.long l.records l.numbers) (l.size * l.k) (length l.numbers / l.size - l.k) l.out l.end
