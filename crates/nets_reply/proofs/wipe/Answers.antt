-- `wipe` meets its contract.
use mathlib.Core.Path.{sym, ◌∙◌}
use Rattle.nets_reply.proofs.wipe.Goals as goal

pub returns-then-touches : goal.returns-then-touches
returns-then-touches c = rw (sym c.touches.ensures ∙ c.if-touches.true) c.clear.ensures

pub returns-else-touches : goal.returns-else-touches
returns-else-touches c = rw (sym c.touches.ensures ∙ c.if-touches.false)
