-- `lent_enough` meets its contract: each buffer, then the queue.
use Rattle.net_tree.specs.EntryLaws.{buffers-told}
use Rattle.net_tree.proofs.entry.lent_enough.Goals as goal

pub returns-then-all_long : goal.returns-then-all_long
returns-then-all_long c = rw c.if-all_long.true at (buffers-told c.args.room c.args.lent c.volume-cells.ensures c.all_long.ensures)

pub returns-else-all_long : goal.returns-else-all_long
returns-else-all_long c = rw c.if-all_long.false (rw c.if-all_long.false at (buffers-told c.args.room c.args.lent c.volume-cells.ensures c.all_long.ensures))
