-- `move_index` meets its contract: its tests are those of the definition.
use borrow.Author.Tests.{eq-eqb, ne_eqb}
use Rattle.repeaters.specs.Masks.{move_index}
use Rattle.repeaters.proofs.links.move_index.Goals as goal

pub returns-then-m-eq0 : goal.returns-then-m-eq0
unfolding move_index
returns-then-m-eq0 c = rw (eq-eqb _ 0 c.if-m-eq0.true)

pub returns-then-m-eq1 : goal.returns-then-m-eq1
unfolding move_index
returns-then-m-eq1 c = rw (ne_eqb _ 0 c.if-m-eq0.false, eq-eqb _ 1 c.if-m-eq1.true)

pub returns : goal.returns
unfolding move_index
returns c = rw (ne_eqb _ 0 c.if-m-eq0.false, ne_eqb _ 1 c.if-m-eq1.false)
