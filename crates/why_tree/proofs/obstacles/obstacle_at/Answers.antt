-- `obstacle_at` meets its contract: the first that stands against the cell.
use Rattle.why_tree.proofs.TellingLaws.{least_first, least-second}
use Rattle.why_tree.proofs.obstacles.obstacle_at.Goals as goal

pub returns-else-first-eq-ALLOWED : goal.returns-else-first-eq-ALLOWED
returns-else-first-eq-ALLOWED c = let a = c.args in least_first a.ground.mode a.ground.room a.kinds.now a.blocked.now a.joinable.now a.approach a.cell c.is_exempt.ensures c.kind_beneath-below.ensures c.obstacle_for-first.ensures c.if-first-eq-ALLOWED.false

pub returns-then-first-eq-ALLOWED : goal.returns-then-first-eq-ALLOWED
returns-then-first-eq-ALLOWED c = let a = c.args in least-second a.ground.mode a.ground.room a.kinds.now a.blocked.now a.joinable.now a.approach a.cell c.is_exempt.ensures c.kind_beneath-below.ensures c.obstacle_for-first.ensures c.if-first-eq-ALLOWED.true c.kept_free-free.ensures c.kept_beneath-beneath.ensures c.blocking_for.ensures
