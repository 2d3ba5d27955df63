-- `every_goal` meets its contract: the loop's invariant is that the goals below are done.
use Rattle.goals.specs.Trials.{site_of}
use Rattle.goals.proofs.GoalLaws.{GoalsTried}
use Rattle.goals.proofs.goal_by_goal.every_goal.Given as goal

abbrev pub invariant-loop-goal : goal.invariant-loop-goal
invariant-loop-goal l =
    GoalsTried (site_of l.turn.ground l.turn.kinds.now l.initial.joinable l.initial.queue) l.turn.start l.goal l.kept l.initial.joinable l.joinable l.initial.blocked l.blocked l.initial.classes l.classes l.initial.known l.known l.initial.previous l.previous l.initial.path l.path l.initial.best l.best l.initial.queue l.queue
