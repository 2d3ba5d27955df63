-- `formed` meets its contract: lists of too many records have too many bytes.
use borrow.Author.Tests.{le-leb, lt-leb}
use Rattle.basics.specs.Tests.{test_fails, test-passes}
use Rattle.sheet_writer.specs.Sizes.{lengths_good}
use Rattle.sheet_writer.specs.SizeLaws.{few-by, too_many}
use Rattle.sheet_writer.proofs.faults.formed.Goals as goal

pub returns-then-n-gt-MAX_SINKS : goal.returns-then-n-gt-MAX_SINKS
unfolding lengths_good
returns-then-n-gt-MAX_SINKS c = rw (lt-leb _ _ c.if-n-gt-MAX_SINKS.true)

pub returns-then-not-wholes : goal.returns-then-not-wholes
unfolding lengths_good
returns-then-not-wholes c = rw (le-leb _ _ c.if-n-gt-MAX_SINKS.false, test_fails c.wholes.ensures c.if-not-wholes.true-raw)

pub returns-then-not-few_records : goal.returns-then-not-few_records
unfolding lengths_good
returns-then-not-few_records c = rw (le-leb _ _ c.if-n-gt-MAX_SINKS.false, test-passes c.wholes.ensures c.if-not-wholes.false-raw, too_many _ _ c.if-n-gt-MAX_SINKS.false (test_fails c.few_records.ensures c.if-not-few_records.true-raw))

pub sheet_length-requires : goal.sheet_length-requires
sheet_length-requires c = few-by _ (test-passes c.few_records.ensures c.if-not-few_records.false-raw) c.if-n-gt-MAX_SINKS.false

pub returns : goal.returns
unfolding lengths_good
returns c = rw (le-leb _ _ c.if-n-gt-MAX_SINKS.false, test-passes c.wholes.ensures c.if-not-wholes.false-raw, c.sheet_length.ensures)
