-- `put_codes` meets its contract.
use Rattle.sheet_writer.proofs.puts.put_codes.Goals as goal

pub returns : goal.returns
returns c = rw (c.low_byte.ensures, c.low_byte-2.ensures) at c.put_bytes.ensures
