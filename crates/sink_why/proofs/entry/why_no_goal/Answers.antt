-- `why_no_goal` keeps its promise: number 6 for an output, else the tree with what may be said.
use mathlib.Core.Path.{refl, sym, ◌∙◌}
use borrow.Author.Rules.{rules}
use Rattle.sink_why.specs.WhyLaws.{room-good, promise_short, why-asked, why-held}
use Rattle.sink_why.proofs.entry.why_no_goal.Goals as goal

pub outputs_short-requires : goal.outputs_short-requires
outputs_short-requires c = room-good c.read_sheet-reading.ensures

pub returns-then-outputs_short : goal.returns-then-outputs_short
returns-then-outputs_short c = let a = c.args in promise_short c.read_sheet-reading.ensures a.reached.now a.walls.now a.causes.now (sym c.outputs_short.ensures ∙ c.if-outputs_short.true) refl

pub why_lent-requires : goal.why_lent-requires
why_lent-requires c = let a = c.args in why-asked c.read_sheet-reading.ensures a.reached.now a.walls.now a.causes.now (sym c.outputs_short.ensures ∙ c.if-outputs_short.false)

pub returns : goal.returns
returns c = why-held c.why_lent.new.memory c.why_lent.ensures.promise (search rules) (search rules) (search rules) (search rules) (search rules) (search rules) (search rules) (search rules) (search rules)
