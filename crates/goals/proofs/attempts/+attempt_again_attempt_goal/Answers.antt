-- `attempt_goal` and `attempt_again` meet their contracts: the conflict of an attempt is blocked for those after it, which are one fewer.
use mathlib.Core.Path.{ap, ◌∙◌}
use native.Mathlib.Omega.{arith}
use lib.Dec.{eqb}
use Rattle.routing_resources.specs.Marks.{unmarked_by}
use Rattle.goals.proofs.AttemptLaws.{able-kept, able-next, site-same, attempts-none, attempts-ended, attempts-full, attempts-repeat, blocked-back, classes-back}
use Rattle.goals.proofs.attempts.+attempt_again_attempt_goal.Goals as goal

pub attempt_again-attempt_goal-tried-requires : goal.attempt_again-attempt_goal-tried-requires
attempt_again-attempt_goal-tried-requires t c = (omega (arith, c.decreases), able-next c.requires.attemptable c.args.cell c.set_blocked.ensures.blocked_after c.set_blocked.ensures.says_2)

pub attempt_again-returns-clause-joinable_unchanged : goal.attempt_again-returns-clause-joinable_unchanged
attempt_again-returns-clause-joinable_unchanged t c =
    let able = c.requires.attemptable in
    let args = c.args in
    let free = c.requires.cell_bound.1 in
    let same = c.attempt_goal-tried.ensures.joinable_unchanged in
    let again = c.set_blocked-2.ensures in
    let back = again.blocked_after ∙ ap (unmarked_by (eqb args.cell)) (same.1 ∙ c.set_blocked.ensures.blocked_after) in
    (same.0, blocked-back able args.cell free back, classes-back able args.cell free back again.says_2)

pub attempt_goal-returns-then-left-eq0-clause-tells : goal.attempt_goal-returns-then-left-eq0-clause-tells
attempt_goal-returns-then-left-eq0-clause-tells t c = attempts-none _ _ _ _ _ _ c.if-left-eq0.true

pub attempt_goal-attempt_again-requires : goal.attempt_goal-attempt_again-requires
attempt_goal-attempt_again-requires t c =
    let args = c.args in
    let tried = c.attempt_once-once in
    let same = site-same args.turn.ground args.turn.kinds.now args.joinable.now _ args.queue.now tried.new.queue tried.ensures.joinable_unchanged tried.auto.queue in
    let once = rw (c.in-Err.is, c.in-Conflict.is) at tried.ensures.attempted in
    (omega (arith, c.if-left-eq0.false, c.decreases), (able-kept c.requires same tried.auto.known tried.auto.previous tried.auto.path, (once.comes.inside, once.comes.free)))

pub attempt_goal-returns-in-Ok-clause-tells : goal.attempt_goal-returns-in-Ok-clause-tells
attempt_goal-returns-in-Ok-clause-tells t c = attempts-ended _ _ _ _ _ c.if-left-eq0.false (rw c.in-Ok.is at c.attempt_once-once.ensures.attempted)

pub attempt_goal-returns-in-Full-clause-tells : goal.attempt_goal-returns-in-Full-clause-tells
attempt_goal-returns-in-Full-clause-tells t c = attempts-full _ _ _ _ _ c.if-left-eq0.false (rw (c.in-Err.is, c.in-Full.is) at c.attempt_once-once.ensures.attempted)

pub attempt_goal-returns-in-Conflict-clause-tells : goal.attempt_goal-returns-in-Conflict-clause-tells
attempt_goal-returns-in-Conflict-clause-tells t c =
    let args = c.args in
    let tried = c.attempt_once-once in
    let same = site-same args.turn.ground args.turn.kinds.now args.joinable.now _ args.queue.now tried.new.queue tried.ensures.joinable_unchanged tried.auto.queue in
    let once = rw (c.in-Err.is, c.in-Conflict.is) at tried.ensures.attempted in
    attempts-repeat _ _ _ _ _ c.if-left-eq0.false once.comes same c.attempt_again.ensures.tells
