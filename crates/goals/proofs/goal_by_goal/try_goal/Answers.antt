-- `try_goal` meets its contract: the goal becomes an end for its attempts, and is none any more behind them.
use mathlib.Core.Path.{ap, ◌∙◌}
use lib.ListN.{length}
use Rattle.goals.proofs.GoalLaws.{able-towards, classes-left}
use Rattle.goals.proofs.AttemptLaws.{able-fits}
use Rattle.goals.proofs.goal_by_goal.try_goal.Goals as goal

pub attempt_goal-tried-requires : goal.attempt_goal-tried-requires
attempt_goal-tried-requires c =
    let args = c.args in
    let refresh = c.refresh in
    able-towards c.requires.attemptable args.goal c.requires.goal_bound refresh.ensures

pub refresh-requires-2-clause-world_fits : goal.refresh-requires-2-clause-world_fits
refresh-requires-2-clause-world_fits c =
    let args = c.args in
    let refresh = c.refresh in
    let attempt-goal = c.attempt_goal-tried in
    let able = able-towards c.requires.attemptable args.goal c.requires.goal_bound refresh.ensures in
    let same = attempt-goal.ensures.joinable_unchanged in rw same.1 (able-fits able)

pub refresh-requires-2-clause-classes_len : goal.refresh-requires-2-clause-classes_len
refresh-requires-2-clause-classes_len c =
    let args = c.args in
    let refresh = c.refresh in
    let attempt-goal = c.attempt_goal-tried in
    let able = able-towards c.requires.attemptable args.goal c.requires.goal_bound refresh.ensures in
    let same = attempt-goal.ensures.joinable_unchanged in ap length same.2 ∙ able.says.long

pub refresh-requires-2-clause-cell_bound : goal.refresh-requires-2-clause-cell_bound
refresh-requires-2-clause-cell_bound c =
    let args = c.args in
    let refresh = c.refresh in
    let attempt-goal = c.attempt_goal-tried in
    let able = able-towards c.requires.attemptable args.goal c.requires.goal_bound refresh.ensures in
    let same = attempt-goal.ensures.joinable_unchanged in c.requires.goal_bound

pub returns-clause-tells : goal.returns-clause-tells
returns-clause-tells c =
    let args = c.args in
    let refresh = c.refresh in
    let attempt-goal = c.attempt_goal-tried in
    let able = able-towards c.requires.attemptable args.goal c.requires.goal_bound refresh.ensures in
    let same = attempt-goal.ensures.joinable_unchanged in
    let back = (rw (same.1, same.2) at c.refresh-2.ensures) ∙ classes-left c.requires.attemptable args.goal c.requires.goal_bound able.says in attempt-goal.ensures.tells

pub returns-clause-joinable_unchanged : goal.returns-clause-joinable_unchanged
returns-clause-joinable_unchanged c =
    let args = c.args in
    let refresh = c.refresh in
    let attempt-goal = c.attempt_goal-tried in
    let able = able-towards c.requires.attemptable args.goal c.requires.goal_bound refresh.ensures in
    let same = attempt-goal.ensures.joinable_unchanged in
    let back = (rw (same.1, same.2) at c.refresh-2.ensures) ∙ classes-left c.requires.attemptable args.goal c.requires.goal_bound able.says in (same.0, same.1, back)
