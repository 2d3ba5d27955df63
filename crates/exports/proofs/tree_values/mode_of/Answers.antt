-- `mode_of` meets its contract: its test is the definition's.
use borrow.Author.Tests.{eq-eqb, ne_eqb}
use Rattle.exports.proofs.tree_values.mode_of.Goals as goal

pub returns-then-strict-eq0 : goal.returns-then-strict-eq0
returns-then-strict-eq0 c = rw (eq-eqb _ _ c.if-strict-eq0.true)

pub returns-else-strict-eq0 : goal.returns-else-strict-eq0
returns-else-strict-eq0 c = rw (ne_eqb _ _ c.if-strict-eq0.false)
