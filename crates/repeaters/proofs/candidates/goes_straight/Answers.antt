-- `goes_straight` meets its contract: its tests are those of the definition.
use borrow.Author.Tests.{eq-eqb, ne_eqb}
use Rattle.room.specs.Units.{no_facing}
use Rattle.repeaters.specs.Repeaters.{straight}
use Rattle.repeaters.proofs.candidates.goes_straight.Goals as goal

pub returns-then-into-ne-NO_FACING : goal.returns-then-into-ne-NO_FACING
unfolding straight
returns-then-into-ne-NO_FACING c = rw (ne_eqb _ no_facing (rw c.facing-into.ensures at c.if-into-ne-NO_FACING.true), c.facing-into.ensures, c.facing.ensures)

pub returns-else-into-ne-NO_FACING : goal.returns-else-into-ne-NO_FACING
unfolding straight
returns-else-into-ne-NO_FACING c = rw (eq-eqb _ no_facing (rw c.facing-into.ensures at c.if-into-ne-NO_FACING.false), c.facing-into.ensures, eq-eqb _ no_facing (rw c.facing-into.ensures at c.if-into-ne-NO_FACING.false))
