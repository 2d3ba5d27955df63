-- `short_number` meets its contract: 1 to 5 are judged before 6.
use mathlib.Core.Path.{refl, sym, ◌∙◌}
use borrow.Author.Rules.{rules}
use Rattle.exports.proofs.tree_values.short_number.Goals as goal

pub returns-then-not-is_good : goal.returns-then-not-is_good
returns-then-not-is_good c = record { reading = _; read = c.read_sheet-reading.ensures; number_is = rw (sym c.is_good.ensures ∙ c.if-not-is_good.true) c.number.ensures }

pub returns : goal.returns
returns c = record { reading = _; read = c.read_sheet-reading.ensures; number_is = rw (sym c.is_good.ensures ∙ c.if-not-is_good.false) refl }
