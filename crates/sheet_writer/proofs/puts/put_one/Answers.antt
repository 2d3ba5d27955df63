-- `put_one` meets its contract.
use Rattle.sheet_writer.proofs.puts.put_one.Goals as goal

pub returns : goal.returns
returns c = rw c.low_byte.ensures at c.put_bytes.ensures
