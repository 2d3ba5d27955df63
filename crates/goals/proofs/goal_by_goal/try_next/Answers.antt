-- `try_next` meets its contract: a cell that is not joinable changes nothing, and a goal's route is kept where it is cheaper.
use Rattle.std.proofs.Common.{rules}
use Rattle.std.specs.Prelude.{Err}
use mathlib.Core.Path.{◌≡◌, refl, sym, ◌∙◌}
use Rattle.goals.specs.Trials.{site_of}
use Rattle.goals.proofs.GoalLaws.{best-kept, best-full, best-next}
use Rattle.goals.proofs.goal_by_goal.try_next.Goals as goal

pub returns-then-joinable-goal-ne-MARKED-clause-tells_2 : goal.returns-then-joinable-goal-ne-MARKED-clause-tells_2
returns-then-joinable-goal-ne-MARKED-clause-tells_2 c =
    let args = c.args in
    best-kept (site_of args.turn.ground args.turn.kinds.now args.joinable.now args.queue.now) args.turn.start args.goal args.blocked.now c.requires.tells c.if-joinable-goal-ne-MARKED.true

pub returns-then-joinable-goal-ne-MARKED-clause-joinable_unchanged : goal.returns-then-joinable-goal-ne-MARKED-clause-joinable_unchanged
returns-then-joinable-goal-ne-MARKED-clause-joinable_unchanged c =
    let args = c.args in
    (refl, refl, refl)

pub keep_cheaper-requires : goal.keep_cheaper-requires
keep_cheaper-requires c =
    let try-goal = c.try_goal in
    let told = rw c.in_ok-tried.was at try-goal.ensures.tells in
    (try-goal.auto.path ∙ c.requires.attemptable.memory.path-long ∙ sym c.requires.goal_bound.1, told.fits)

pub returns-clause-tells_2 : goal.returns-clause-tells_2
returns-clause-tells_2 c =
    let args = c.args in
    let if1 = c.if-joinable-goal-ne-MARKED in
    best-next (site_of args.turn.ground args.turn.kinds.now args.joinable.now args.queue.now) args.turn.start args.goal args.blocked.now c.requires.tells if1.false (rw c.in_ok-tried.was at c.try_goal.ensures.tells) c.keep_cheaper.ensures

pub returns-clause-joinable_unchanged : goal.returns-clause-joinable_unchanged
returns-clause-joinable_unchanged c =
    c.try_goal.ensures.joinable_unchanged

pub returns-in_err-tried-clause-tells_2 : goal.returns-in_err-tried-clause-tells_2
returns-in_err-tried-clause-tells_2 c =
    let args = c.args in
    let e : c.from_residual.result ≡ Err c.in_err-tried.field-0.0 = search rules in
    rw e (best-full (site_of args.turn.ground args.turn.kinds.now args.joinable.now args.queue.now) args.turn.start args.goal args.blocked.now c.requires.tells c.if-joinable-goal-ne-MARKED.false (rw c.in_err-tried.was at c.try_goal.ensures.tells))
