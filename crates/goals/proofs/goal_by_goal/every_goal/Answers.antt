-- `every_goal` meets its contract: the loop's invariant is that the goals below are done.
use Rattle.std.proofs.Common.{rules}
use Rattle.std.specs.Prelude.{Err}
use mathlib.Core.Path.{◌≡◌, ◌∙◌}
use Prim.Native.Nat.{◌+◌}
use native.Mathlib.Omega.{arith}
use Rattle.goals.specs.Trials.{site_of}
use Rattle.goals.proofs.GoalLaws.{memory-able, goals-first, goals-tells, goals-told, goals-next, tree-full, tree_all}
use Rattle.goals.proofs.goal_by_goal.every_goal.Goals as goal

pub loop-goal-init : goal.loop-goal-init
loop-goal-init c = goals-first _ _ _ _ _ _ _ _ _ _

pub try_next-requires-clause-attemptable : goal.try_next-requires-clause-attemptable
try_next-requires-clause-attemptable c =
    let loop-test = c.loop-goal-test in
    let args = c.args in
    let loop = c.loop-goal in
    let h = rw c.requires.attemptable.grounds.kinds-long at loop-test.true in memory-able args.turn.ground args.turn.kinds.now loop.invariant.same c.requires.attemptable

pub try_next-requires-clause-goal_bound : goal.try_next-requires-clause-goal_bound
try_next-requires-clause-goal_bound c =
    let loop-test = c.loop-goal-test in
    let args = c.args in
    let loop = c.loop-goal in
    let h = rw c.requires.attemptable.grounds.kinds-long at loop-test.true in (h, loop.invariant.same.best-long ∙ c.requires.best_len)

pub try_next-requires-clause-tells : goal.try_next-requires-clause-tells
try_next-requires-clause-tells c =
    let loop-test = c.loop-goal-test in
    let args = c.args in
    let loop = c.loop-goal in
    let h = rw c.requires.attemptable.grounds.kinds-long at loop-test.true in goals-tells args.turn.ground args.turn.kinds.now loop.invariant

pub returns-in_err-kept-clause-tells : goal.returns-in_err-kept-clause-tells
returns-in_err-kept-clause-tells c =
    let args = c.args in
    let loop = c.loop-goal in
    let h = rw c.requires.attemptable.grounds.kinds-long at c.loop-goal-test.true in
    let t = goals-told args.turn.ground args.turn.kinds.now loop.invariant (loop.goal + 1) c.try_next.ensures.tells_2 in
    let e : c.from_residual.result ≡ Err c.in_err-kept.field-0.0 = search rules in
    rw e (tree-full (site_of args.turn.ground args.turn.kinds.now args.joinable.now args.queue.now) args.turn.start (loop.goal + 1) args.blocked.now (rw c.in_err-kept.was at t) (omega arith))

pub returns-in_err-kept-clause-joinable_unchanged : goal.returns-in_err-kept-clause-joinable_unchanged
returns-in_err-kept-clause-joinable_unchanged c =
    let loop-test = c.loop-goal-test in
    let args = c.args in
    let loop = c.loop-goal in
    let try-next = c.try_next in
    let h = rw c.requires.attemptable.grounds.kinds-long at loop-test.true in
    let t = goals-told args.turn.ground args.turn.kinds.now loop.invariant (loop.goal + 1) try-next.ensures.tells_2 in
    let same = try-next.ensures.joinable_unchanged in (same.0 ∙ loop.invariant.same.joinable-is, same.1 ∙ loop.invariant.same.blocked-is, same.2 ∙ loop.invariant.same.classes-is)

pub loop-goal-preserved : goal.loop-goal-preserved
loop-goal-preserved c =
    let loop-test = c.loop-goal-test in
    let args = c.args in
    let loop = c.loop-goal in
    let try-next = c.try_next in
    let h = rw c.requires.attemptable.grounds.kinds-long at loop-test.true in
    goals-next args.turn.ground args.turn.kinds.now loop.invariant h (rw c.in_ok-kept.was at try-next.ensures.tells_2) try-next.ensures.joinable_unchanged try-next.auto.known try-next.auto.previous try-next.auto.path try-next.auto.best try-next.auto.queue

pub returns-clause-tells : goal.returns-clause-tells
returns-clause-tells c =
    let args = c.args in
    let loop = c.loop-goal in
    let h = rw c.requires.attemptable.grounds.kinds-long at c.loop-goal-test.false in tree_all (site_of args.turn.ground args.turn.kinds.now args.joinable.now args.queue.now) args.turn.start loop.goal args.blocked.now loop.invariant.tells loop.invariant.within h

pub returns-clause-joinable_unchanged : goal.returns-clause-joinable_unchanged
returns-clause-joinable_unchanged c =
    let args = c.args in
    let loop = c.loop-goal in
    let h = rw c.requires.attemptable.grounds.kinds-long at c.loop-goal-test.false in (loop.invariant.same.joinable-is, loop.invariant.same.blocked-is, loop.invariant.same.classes-is)
