-- `astar_route` keeps its promise: refused, an end not routeable, or the defined search.
use native.Mathlib.Omega.{arith}
use mathlib.Core.Path.{sym, ap, ◌∙◌}
use Rattle.std.specs.Prelude.{Err}
use Rattle.std.proofs.lemmas.Result.{err_from_is_err_and}
use Rattle.routing.specs.PromiseLaws.{admitted, promise_unfit, promise_end, promise_searched}
use Rattle.routing.proofs.astar.astar_route.Goals as goal

pub returns-in_err-judge : goal.returns-in_err-judge
returns-in_err-judge c =
    let a = c.args in
    let w = err_from_is_err_and c.from_residual.result c.from_residual.ensures.1 in
    rw (w.1 ∙ ap Err w.2) (promise_unfit a.room a.config a.kinds.now a.start a.goal a.path.now a.known.now a.previous.now a.classes.now a.queue.now _ (sym c.judge.ensures ∙ c.in_err-judge.was))

pub bad_end-requires : goal.bad_end-requires
bad_end-requires c = let p = admitted (sym c.judge.ensures ∙ c.in_ok-judge.was) in (omega (arith, p.start_in, p.kinds-long), omega (arith, p.goal_in, p.kinds-long))

pub returns-in-Err : goal.returns-in-Err
returns-in-Err c = let a = c.args in let E = c.refuse_end.ensures in rw E.0 (promise_end a.room a.config a.kinds.now a.start a.goal a.path.now a.known.now a.previous.now a.classes.now a.queue.now (sym c.judge.ensures ∙ c.in_ok-judge.was) _ (sym c.in-Err.is ∙ c.bad_end.ensures) E.1 E.2 E.3 E.4 E.5)

pub answer_fit-requires : goal.answer_fit-requires
answer_fit-requires c = admitted (sym c.judge.ensures ∙ c.in_ok-judge.was)

pub returns : goal.returns
returns c = let a = c.args in promise_searched a.room a.config a.kinds.now a.start a.goal a.path.now a.known.now a.previous.now a.classes.now a.queue.now (sym c.judge.ensures ∙ c.in_ok-judge.was) _ (sym c.in_default.is ∙ c.bad_end.ensures) c.answer_fit.ensures
