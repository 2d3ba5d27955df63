-- `pass_label` meets its contract: of a goal that was tried what comes first is kept.
use Rattle.goals.proofs.LabelledLaws.{goal-passes, goal-never}
use Rattle.goals.proofs.labelled.pass_label.Goals as goal

pub returns-in_err-tried : goal.returns-in_err-tried
returns-in_err-tried c = absurd (goal-never c.requires.tryable (rw c.in_err-tried.was at c.try_goal.ensures.tells))

pub returns-clause-passes_goal : goal.returns-clause-passes_goal
returns-clause-passes_goal c = goal-passes c.requires.tryable (rw c.in_ok-tried.was at c.try_goal.ensures.tells) c.keep_goal.ensures
