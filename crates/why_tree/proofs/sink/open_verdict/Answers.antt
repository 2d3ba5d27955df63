-- `open_verdict` meets its contract: the definition, by its test.
use mathlib.Core.Path.{sym, ◌∙◌}
use Rattle.why_tree.proofs.sink.open_verdict.Goals as goal

pub returns-then-is_ample : goal.returns-then-is_ample
returns-then-is_ample c = rw (sym c.is_ample.ensures ∙ c.if-is_ample.true)

pub returns-else-is_ample : goal.returns-else-is_ample
returns-else-is_ample c = rw (sym c.is_ample.ensures ∙ c.if-is_ample.false)
