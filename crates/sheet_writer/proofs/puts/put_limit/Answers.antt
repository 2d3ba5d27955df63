-- `put_limit` meets its contract: one byte where limits are carried.
use Rattle.putting.specs.PutLaws.{put-nothing}
use Rattle.sheet_writer.proofs.puts.put_limit.Goals as goal

pub put_one-requires : goal.put_one-requires
put_one-requires c = rw c.if-limits.true at c.requires

pub returns-then-limits : goal.returns-then-limits
returns-then-limits c = rw c.if-limits.true c.put_one.ensures

pub returns-else-limits : goal.returns-else-limits
returns-else-limits c = rw c.if-limits.false put-nothing
