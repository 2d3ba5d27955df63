-- `outputs_short` meets its contract: its tests are the definition's.
use Rattle.basics.specs.Tests.{test_fails, test-passes}
use Rattle.sink_why.proofs.entry.outputs_short.Goals as goal

pub returns-then-not-is_good : goal.returns-then-not-is_good
returns-then-not-is_good c = rw (test_fails c.is_good.ensures c.if-not-is_good.true-raw)

pub outputs_enough-requires : goal.outputs_enough-requires
outputs_enough-requires c = c.requires (test-passes c.is_good.ensures c.if-not-is_good.false-raw)

pub returns : goal.returns
returns c = rw (test-passes c.is_good.ensures c.if-not-is_good.false-raw, c.outputs_enough.ensures)
