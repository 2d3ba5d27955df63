-- `settle` meets its contract: the outputs are cleared, or stay.
use mathlib.Core.Path.{sym, ◌∙◌}
use Rattle.sink_why.specs.WhyLaws.{settled_zero, settled-kept}
use Rattle.sink_why.proofs.entry.settle.Goals as goal

pub returns-then-touches : goal.returns-then-touches
returns-then-touches c = let a = c.args in let t = sym c.touches.ensures ∙ c.if-touches.true in (settled_zero a.number t a.reached.now c.clear_outputs.ensures.0, settled_zero a.number t a.walls.now c.clear_outputs.ensures.1, settled_zero a.number t a.causes.now c.clear_outputs.ensures.2)

pub returns-else-touches : goal.returns-else-touches
returns-else-touches c = let a = c.args in let f = sym c.touches.ensures ∙ c.if-touches.false in (settled-kept a.number f a.reached.now, settled-kept a.number f a.walls.now, settled-kept a.number f a.causes.now)
