-- `keep_cheaper` meets its contract, by cases of what the later goal came to.
use Rattle.goals.proofs.GoalLaws.{keeps-kept, keeps-old, keeps-new}
use Rattle.basics.specs.Tests.{test_fails, test-passes}
use Rattle.goals.proofs.cheapest.keep_cheaper.Goals as goal

pub returns-in_default : goal.returns-in_default
returns-in_default c = rw c.in_default.is (keeps-kept c.args.kept)

pub returns-then-not-beats : goal.returns-then-not-beats
returns-then-not-beats c = rw c.in-Some.is (keeps-old _ c.args.kept (test_fails c.beats.ensures c.if-not-beats.true-raw))

pub returns : goal.returns
returns c = rw c.in-Some.is (keeps-new _ c.args.kept (test-passes c.beats.ensures c.if-not-beats.false-raw) (rw c.in-Some.is at c.requires.1) c.copy_cells.ensures)
