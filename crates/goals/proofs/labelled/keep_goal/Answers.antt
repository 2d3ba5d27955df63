-- `keep_goal` meets its contract, by cases of what the goal came to.
use mathlib.Core.Path.{refl}
use Rattle.basics.specs.Tests.{test_fails, test-passes}
use Rattle.goals.proofs.LabelledLaws.{goal-failed, goal-old, goal-new}
use Rattle.goals.proofs.labelled.keep_goal.Goals as goal

pub returns-in_default : goal.returns-in_default
returns-in_default c = rw c.in_default.is (goal-failed _ _)

pub returns-then-not-precedes : goal.returns-then-not-precedes
returns-then-not-precedes c = rw c.in-Some.is (goal-old _ _ _ (test_fails c.precedes.ensures c.if-not-precedes.true-raw))

pub returns : goal.returns
returns c = rw c.in-Some.is (goal-new _ _ _ (test-passes c.precedes.ensures c.if-not-precedes.false-raw) refl)
