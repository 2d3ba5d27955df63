-- `bad_end` meets its contract: the start is judged first.
use Rattle.basics.specs.Tests.{test_fails, test-passes}
use Rattle.routing.proofs.astar.bad_end.Goals as goal

pub returns-then-not-routeable_kind : goal.returns-then-not-routeable_kind
returns-then-not-routeable_kind c = rw (test_fails c.routeable_kind.ensures c.if-not-routeable_kind.true-raw)

pub returns-then-not-routeable_kind-2 : goal.returns-then-not-routeable_kind-2
returns-then-not-routeable_kind-2 c = rw (test-passes c.routeable_kind.ensures c.if-not-routeable_kind.false-raw, test_fails c.routeable_kind-2.ensures c.if-not-routeable_kind-2.true-raw)

pub returns : goal.returns
returns c = rw (test-passes c.routeable_kind.ensures c.if-not-routeable_kind.false-raw, test-passes c.routeable_kind-2.ensures c.if-not-routeable_kind-2.false-raw)
