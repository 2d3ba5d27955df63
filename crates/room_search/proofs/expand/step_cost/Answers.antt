-- `step_cost` meets its contract: its two cases are the definition's.
use Rattle.room_search.specs.TryLaws.{price-flat, price_stair}
use Rattle.room_search.proofs.expand.step_cost.Goals as goal

pub returns-then-m-eq1 : goal.returns-then-m-eq1
returns-then-m-eq1 c = price-flat _ c.args.m 0 c.if-m-eq1.true

pub returns-else-m-eq1 : goal.returns-else-m-eq1
returns-else-m-eq1 c = price_stair _ c.args.m 0 c.if-m-eq1.false
