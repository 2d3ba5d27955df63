-- `kind_below` meets its contract: its two cases are the contract's.
use borrow.Author.Tests.{lt-ltb, le-ltb}
use Rattle.room_search.proofs.classes.kind_below.Goals as goal

pub returns-then-layer-deep : goal.returns-then-layer-deep
returns-then-layer-deep c = rw (lt-ltb _ _ c.if-layer-deep.true)

pub returns-else-layer-deep : goal.returns-else-layer-deep
returns-else-layer-deep c = rw (le-ltb _ _ c.if-layer-deep.false)
