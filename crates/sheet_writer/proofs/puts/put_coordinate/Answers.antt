-- `put_coordinate` meets its contract: two bytes where it is long, else one.
use Rattle.sheet_writer.proofs.puts.put_coordinate.Goals as goal

pub put_two-requires : goal.put_two-requires
put_two-requires c = rw c.if-long.true at c.requires

pub put_one-requires : goal.put_one-requires
put_one-requires c = rw c.if-long.false at c.requires

pub returns-then-long : goal.returns-then-long
returns-then-long c = rw c.if-long.true c.put_two.ensures

pub returns-else-long : goal.returns-else-long
returns-else-long c = rw c.if-long.false c.put_one.ensures
