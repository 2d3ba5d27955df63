-- `judge` meets its contract: its tests are the definition's, in its order.
use Rattle.basics.specs.Tests.{test_fails, test-passes}
use Rattle.room.specs.RoomLaws.{good}
use Rattle.routing.specs.Answers.{judged}
use Rattle.routing.proofs.judge.judge.Goals as goal

pub returns-then-not-good : goal.returns-then-not-good
unfolding judged
returns-then-not-good c = rw (test_fails c.good.ensures c.if-not-good.true-raw)

pub good-requires-2 : goal.good-requires-2
good-requires-2 c = good _ (test-passes c.good.ensures c.if-not-good.false-raw)

pub returns-then-not-good-2 : goal.returns-then-not-good-2
unfolding judged
returns-then-not-good-2 c = rw (test-passes c.good.ensures c.if-not-good.false-raw, test_fails c.good-2.ensures c.if-not-good-2.true-raw)

pub buffers_good-requires : goal.buffers_good-requires
buffers_good-requires c = good c.args.room (test-passes c.good.ensures c.if-not-good.false-raw)

pub returns-then-not-buffers_good : goal.returns-then-not-buffers_good
unfolding judged
returns-then-not-buffers_good c = rw (test-passes c.good.ensures c.if-not-good.false-raw, test-passes c.good-2.ensures c.if-not-good-2.false-raw, test_fails c.buffers_good.ensures c.if-not-buffers_good.true-raw)

pub returns-then-not-all_known : goal.returns-then-not-all_known
unfolding judged
returns-then-not-all_known c = rw (test-passes c.good.ensures c.if-not-good.false-raw, test-passes c.good-2.ensures c.if-not-good-2.false-raw, test-passes c.buffers_good.ensures c.if-not-buffers_good.false-raw, test_fails c.all_known.ensures c.if-not-all_known.true-raw)

pub ends_inside-requires : goal.ends_inside-requires
ends_inside-requires c = good c.args.room (test-passes c.good.ensures c.if-not-good.false-raw)

pub returns-then-not-ends_inside : goal.returns-then-not-ends_inside
unfolding judged
returns-then-not-ends_inside c = rw (test-passes c.good.ensures c.if-not-good.false-raw, test-passes c.good-2.ensures c.if-not-good-2.false-raw, test-passes c.buffers_good.ensures c.if-not-buffers_good.false-raw, test-passes c.all_known.ensures c.if-not-all_known.false-raw, test_fails c.ends_inside.ensures c.if-not-ends_inside.true-raw)

pub returns : goal.returns
unfolding judged
returns c = rw (test-passes c.good.ensures c.if-not-good.false-raw, test-passes c.good-2.ensures c.if-not-good-2.false-raw, test-passes c.buffers_good.ensures c.if-not-buffers_good.false-raw, test-passes c.all_known.ensures c.if-not-all_known.false-raw, test-passes c.ends_inside.ensures c.if-not-ends_inside.false-raw)
