-- `why_no_route` meets its contract: number 6 for an output, else the search's answer with the outputs that go with it.
use mathlib.Core.Path.{sym, ◌∙◌}
use Rattle.why.specs.WhyLaws.{promise_short, no_route_tellable, promise_explained}
use borrow.Author.Rules.{rules}
use Rattle.why.proofs.why.why_no_route.Goals as goal

pub returns-then-outputs_refused : goal.returns-then-outputs_refused
returns-then-outputs_refused c = let a = c.args in promise_short a.room a.config a.kinds.now a.start a.goal a.path.now a.known.now a.previous.now a.classes.now a.queue.now a.reached.now a.walls.now (sym c.outputs_refused.ensures ∙ c.if-outputs_refused.true)

pub explain-requires : goal.explain-requires
explain-requires c = let a = c.args in no_route_tellable a.room a.config a.kinds.now a.start a.goal a.path.now a.known.now a.previous.now a.classes.now a.queue.now a.reached.now a.walls.now (sym c.outputs_refused.ensures ∙ c.if-outputs_refused.false) c.astar_route-answer.ensures

pub returns : goal.returns
returns c = let a = c.args in promise_explained a.room a.config a.kinds.now a.start a.goal a.path.now a.known.now a.previous.now a.classes.now a.queue.now a.reached.now a.walls.now (sym c.outputs_refused.ensures ∙ c.if-outputs_refused.false) c.astar_route-answer.ensures c.explain.ensures
