-- `put_list` meets its contract: the count, then the records.
use Rattle.putting.specs.PutLaws.{both, first_fits, then-fits}
use Rattle.sheet_writer.specs.Faults.{numbers_some}
use Rattle.sheet_writer.specs.Texts.{records_text, list_text}
use Rattle.sheet_writer.proofs.puts.put_list.Goals as goal

pub nonzero_div-numbers : goal.nonzero_div-numbers
nonzero_div-numbers c = numbers_some c.args.records _ c.numbers-size.ensures

pub put_two-counted-requires : goal.put_two-counted-requires
unfolding list_text
put_two-counted-requires c = rw c.numbers-size.ensures (first_fits (records_text c.args.long c.args.records c.args.numbers.now) c.requires)

pub put_records-requires : goal.put_records-requires
unfolding list_text
put_records-requires c = then-fits (rw c.numbers-size.ensures at c.put_two-counted.ensures) c.requires

pub returns : goal.returns
unfolding list_text
returns c = both (rw c.numbers-size.ensures at c.put_two-counted.ensures) c.put_records.ensures
