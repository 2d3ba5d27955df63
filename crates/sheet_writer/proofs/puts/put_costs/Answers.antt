-- `put_costs` meets its contract, one amount after another.
use Rattle.putting.specs.PutLaws.{both}
use Rattle.sheet_writer.proofs.puts.put_costs.Goals as goal

pub returns : goal.returns
returns c = both (rw c.as_index.ensures.0 at c.put_four-first.ensures) (both (rw c.as_index-2.ensures.0 at c.put_four-second.ensures) (both (rw c.as_index-3.ensures.0 at c.put_four-third.ensures) (rw c.as_index-4.ensures.0 at c.put_four.ensures)))
