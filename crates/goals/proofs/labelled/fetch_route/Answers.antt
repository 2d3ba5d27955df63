-- `fetch_route` meets its contract: the kept route's goal comes to it again.
use mathlib.Core.Path.{sym, ◌∙◌}
use Rattle.goals.proofs.LabelledLaws.{fetched_none, fetched_goal, fetched_never, fetched_route}
use Rattle.goals.proofs.labelled.fetch_route.Goals as goal

pub try_goal-requires-clause-goal_bound : goal.try_goal-requires-clause-goal_bound
try_goal-requires-clause-goal_bound c = fetched_goal c.requires.never_full c.requires.all_passed c.in-Some.is

pub returns-in_err-tried : goal.returns-in_err-tried
returns-in_err-tried c = absurd (fetched_never c.requires.never_full c.requires.all_passed c.in-Some.is (rw c.in_err-tried.was at c.try_goal.ensures.tells))

pub copy_path-requires : goal.copy_path-requires
copy_path-requires c =
    (c.try_goal.auto.path ∙ c.requires.attemptable.memory.path-long ∙ sym c.requires.best_len, (rw c.in_ok-tried.was at c.try_goal.ensures.tells).fits)

pub returns-clause-tells : goal.returns-clause-tells
returns-clause-tells c = fetched_route c.requires.never_full c.requires.all_passed c.in-Some.is (rw c.in_ok-tried.was at c.try_goal.ensures.tells) c.copy_path.ensures

pub returns-in_default-clause-tells : goal.returns-in_default-clause-tells
returns-in_default-clause-tells c = fetched_none c.requires.never_full c.requires.all_passed c.in_default.is _
