-- `tell_tree` meets its contract: a tree and a number above 6 write their values, and numbers 1 to 6 none.
use mathlib.Core.Path.{refl, sym, ◌∙◌}
use borrow.Author.Rules.{rules}
use Rattle.exports.proofs.tree_values.tell_tree.Goals as goal

pub returns-in-Ok : goal.returns-in-Ok
returns-in-Ok c = rw c.in-Ok.is record { value = refl; values_after = c.write_values.ensures }

pub returns-then-touches : goal.returns-then-touches
returns-then-touches c = rw (c.in-Err.is, sym c.touches.ensures ∙ c.if-touches.true) record { value = refl; values_after = rw c.no_lengths.ensures at c.write_values-then-touches.ensures }

pub returns-else-touches : goal.returns-else-touches
returns-else-touches c = rw (c.in-Err.is, sym c.touches.ensures ∙ c.if-touches.false) record { value = refl; values_after = refl }
