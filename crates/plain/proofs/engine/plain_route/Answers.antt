-- `plain_route` keeps its promise: refused, an end not routeable, or what the sweeps come to.
use mathlib.Core.Path.{sym, ap, ◌∙◌}
use Rattle.std.specs.Prelude.{Err}
use Rattle.std.proofs.lemmas.Result.{err_from_is_err_and}
use native.Mathlib.Omega.{arith}
use Rattle.plain.specs.PromiseLaws.{admits, promise_unfit, promise_end, promise_found}
use Rattle.plain.proofs.engine.plain_route.Goals as goal

pub returns-in_err-judge : goal.returns-in_err-judge
returns-in_err-judge c =
    let a = c.args in
    let w = err_from_is_err_and c.from_residual.result c.from_residual.ensures.1 in
    rw (w.1 ∙ ap Err w.2)
    (promise_unfit a.room a.horizontal a.stair a.support a.kinds.now a.start a.goal a.path.now a.known.now a.previous.now a.classes.now _ (sym c.judge.ensures ∙ c.in_err-judge.was))

pub bad_end-requires : goal.bad_end-requires
bad_end-requires c =
    let a = c.args in
    let p = (admits a.room a.horizontal a.stair a.support a.kinds.now a.start a.goal a.path.now a.known.now a.previous.now a.classes.now (sym c.judge.ensures ∙ c.in_ok-judge.was)).posed in
    (omega (arith, p.start_in, p.kinds-long), omega (arith, p.goal_in, p.kinds-long))

pub returns-in-Err : goal.returns-in-Err
returns-in-Err c =
    let E = c.refuse_end.ensures in
    let a = c.args in
    rw E.0
    (promise_end a.room a.horizontal a.stair a.support a.kinds.now a.start a.goal a.path.now a.known.now a.previous.now a.classes.now
    (sym c.judge.ensures ∙ c.in_ok-judge.was)
    _
    (sym c.in-Err.is ∙ c.bad_end.ensures)
    E.1
    E.2
    E.3
    E.4)

pub answer_fit-requires : goal.answer_fit-requires
answer_fit-requires c =
    let a = c.args in
    admits a.room a.horizontal a.stair a.support a.kinds.now a.start a.goal a.path.now a.known.now a.previous.now a.classes.now (sym c.judge.ensures ∙ c.in_ok-judge.was)

pub returns : goal.returns
returns c =
    let a = c.args in
    promise_found a.room a.horizontal a.stair a.support a.kinds.now a.start a.goal a.path.now a.known.now a.previous.now a.classes.now
    (sym c.judge.ensures ∙ c.in_ok-judge.was)
    _
    (sym c.in_default.is ∙ c.bad_end.ensures)
    c.answer_fit.ensures
