-- `copy_records` meets its contract: what is put, and what is left to put, are the whole.
use Rattle.sheet_writer.specs.Apart.{numbers_in, list_in}
use Rattle.sheet_writer.specs.TextLaws.{Recording}
use Rattle.std.proofs.Common.{◌*◌, ◌+◌, ◌-◌}
use Rattle.sheet_writer.proofs.apart.copy_records.Given as goal

abbrev pub invariant-loop-k : goal.invariant-loop-k
invariant-loop-k l = Recording (numbers_in l.part.long l.records) l.part.size l.sheet l.initial.out 0 (list_in l.records l.sheet l.part) (l.part.from + l.part.size * l.k) (l.part.count - l.k) l.out l.end
