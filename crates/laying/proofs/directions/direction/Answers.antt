-- `direction` meets its contract: a parent is a cell of the room.
use Rattle.std.proofs.Common.{◌∙◌}
use Rattle.laying.specs.PlacingLaws.{undirected, directed}
use Rattle.laying.proofs.directions.direction.Goals as goal

pub returns-then-parent-eq0 : goal.returns-then-parent-eq0
returns-then-parent-eq0 c = undirected _ _ _ (rw c.as_index-parent.ensures.0 at c.if-parent-eq0.true)

pub returns-else-parent-eq0 : goal.returns-else-parent-eq0
returns-else-parent-eq0 c = (rw c.as_index-parent.ensures.0 at c.facing.ensures) ∙ directed _ _ _ (rw c.as_index-parent.ensures.0 at c.if-parent-eq0.false)
