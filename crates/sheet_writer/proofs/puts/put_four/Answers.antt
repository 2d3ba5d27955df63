-- `put_four` meets its contract: the upper two bytes, then the lower two.
use Rattle.putting.specs.PutLaws.{both}
use Rattle.sheet_writer.proofs.puts.put_four.Goals as goal

pub returns : goal.returns
returns c = both c.put_two-end.ensures c.put_two.ensures
