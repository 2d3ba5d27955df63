-- `ends_inside` meets its contract: each test is one of the definition's.
use borrow.Author.Tests.{le-ltb, lt-ltb}
use Rattle.routing.specs.Answers.{ends_inside}
use Rattle.routing.proofs.judge.ends_inside.Goals as goal

pub returns-then-start-v : goal.returns-then-start-v
unfolding ends_inside
returns-then-start-v c = rw (← c.volume-v.ensures, lt-ltb _ _ c.if-start-v.true)

pub returns-else-start-v : goal.returns-else-start-v
unfolding ends_inside
returns-else-start-v c = rw (← c.volume-v.ensures, le-ltb _ _ c.if-start-v.false)
