-- `lay` meets its contract: the test is the definition's.
use borrow.Author.Tests.{eq-eqb, ne_eqb}
use Rattle.room.specs.Units.{air}
use Rattle.drawing.specs.Drawing.{laid}
use Rattle.drawing.proofs.wiring.lay.Goals as goal

pub returns-then-kinds-cell-eq-AIR : goal.returns-then-kinds-cell-eq-AIR
unfolding laid
returns-then-kinds-cell-eq-AIR c = rw (eq-eqb _ air c.if-kinds-cell-eq-AIR.true)

pub returns-else-kinds-cell-eq-AIR : goal.returns-else-kinds-cell-eq-AIR
unfolding laid
returns-else-kinds-cell-eq-AIR c = rw (ne_eqb _ air c.if-kinds-cell-eq-AIR.false)
