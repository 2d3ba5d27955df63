-- `routeable_kind` meets its contract: its tests are the definition's.
use borrow.Author.Tests.{eq-eqb, ne_eqb}
use Rattle.room.specs.Units.{air}
use Rattle.room_search.specs.Routing.{routeable_kind}
use Rattle.room_search.proofs.classes.routeable_kind.Goals as goal

pub returns-then-kind-eq-AIR : goal.returns-then-kind-eq-AIR
unfolding routeable_kind
returns-then-kind-eq-AIR c = rw (eq-eqb _ air c.if-kind-eq-AIR.true)

pub returns-then-endpoint : goal.returns-then-endpoint
unfolding routeable_kind
returns-then-endpoint c = rw (ne_eqb _ air c.if-kind-eq-AIR.false, c.if-endpoint.true)

pub returns-else-endpoint : goal.returns-else-endpoint
unfolding routeable_kind
returns-else-endpoint c = rw (ne_eqb _ air c.if-kind-eq-AIR.false, c.if-endpoint.false)
