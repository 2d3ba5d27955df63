-- `clearance` meets its contract: its tests are those of the definition.
use borrow.Author.Tests.{eq-eqb, ne_eqb, lt-ltb, le-ltb}
use Rattle.routing_resources.specs.Resources.{clearance_of}
use Rattle.routing_resources.proofs.clearance.Goals as goal

pub returns-then-p-q : goal.returns-then-p-q
unfolding clearance_of
returns-then-p-q c = rw (eq-eqb _ _ (rw (c.pos-p.ensures, c.pos-q.ensures) at c.if-p-q.true))

pub returns-then-p-q-2 : goal.returns-then-p-q-2
unfolding clearance_of
returns-then-p-q-2 c =
    let p-is = c.pos-p.ensures in
    let q-is = c.pos-q.ensures in
    rw (ne_eqb _ _ (rw (p-is, q-is) at c.if-p-q.false), lt-ltb _ _ (rw (p-is, q-is) at c.if-p-q-2.true)) c.above.ensures

pub returns-else-p-q-2 : goal.returns-else-p-q-2
unfolding clearance_of
returns-else-p-q-2 c =
    let p-is = c.pos-p.ensures in
    let q-is = c.pos-q.ensures in
    rw (ne_eqb _ _ (rw (p-is, q-is) at c.if-p-q.false), le-ltb _ _ (rw (p-is, q-is) at c.if-p-q-2.false)) c.above-else-p-q-2.ensures
