-- `materialize_route` keeps its promise: refused, or the path drawn.
use Rattle.std.proofs.lemmas.Result.{err_from_is_err_and}
use mathlib.Core.Path.{sym, ◌∙◌}
use Rattle.drawing.specs.PromiseLaws.{drawable}
use Rattle.drawing.specs.RoutePromiseLaws.{drawn_unfit, drawn_fit}
use Rattle.drawing.proofs.wiring.materialize_route.Goals as goal

pub returns-in_err-judge : goal.returns-in_err-judge
returns-in_err-judge c = let p = err_from_is_err_and c.from_residual.result c.from_residual.ensures.1 in rw (p.1, p.2) (drawn_unfit _ _ _ _ _ (rw c.kind_known-known.ensures at (sym c.judge.ensures) ∙ c.in_err-judge.was))

pub draw_path-requires : goal.draw_path-requires
draw_path-requires c = drawable _ _ (sym c.judge.ensures ∙ c.in_ok-judge.was)

pub returns : goal.returns
returns c = drawn_fit _ _ _ _ (rw c.kind_known-known.ensures at (sym c.judge.ensures) ∙ c.in_ok-judge.was) c.draw_path.ensures
