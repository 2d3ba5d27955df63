-- `pass_goal` meets its contract: of a goal that was tried the route that comes first is kept.
use mathlib.Core.Path.{sym, ◌∙◌}
use Rattle.goals.proofs.PassingLaws.{tried-passes, tried-never}
use Rattle.goals.proofs.passing.pass_goal.Goals as goal

pub returns-in_err-tried : goal.returns-in_err-tried
returns-in_err-tried c = absurd (tried-never c.requires.passable (rw c.in_err-tried.was at c.try_goal.ensures.tells))

pub keep_first-requires : goal.keep_first-requires
keep_first-requires c =
    (c.try_goal.auto.path ∙ c.requires.attemptable.memory.path-long ∙ sym c.requires.passable.best-long, (rw c.in_ok-tried.was at c.try_goal.ensures.tells).fits)

pub returns-clause-passes : goal.returns-clause-passes
returns-clause-passes c = tried-passes c.requires.passable (rw c.in_ok-tried.was at c.try_goal.ensures.tells) c.keep_first.ensures
