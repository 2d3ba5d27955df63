-- `Ranges::sides_within` meets its contract: each test is one of the definition's, and sides within the search's have a small product.
use native.Mathlib.Nat.{le_trans, mul-le-mul}
use native.Mathlib.Omega.{arith}
use Rattle.basics.specs.Tests.{test_fails, test-passes}
use Rattle.room.specs.RoomLaws.{between-high}
use Rattle.job_sheet.specs.Version.{sides_within}
use Rattle.job_sheet.proofs.Ranges.sides_within.Goals as goal

pub returns-then-not-side_within : goal.returns-then-not-side_within
unfolding sides_within
returns-then-not-side_within c = rw (test_fails c.side_within.ensures c.if-not-side_within.true-raw)

pub returns-then-not-side_within-2 : goal.returns-then-not-side_within-2
unfolding sides_within
returns-then-not-side_within-2 c = rw (test-passes c.side_within.ensures c.if-not-side_within.false-raw, test_fails c.side_within-2.ensures c.if-not-side_within-2.true-raw)

pub returns-then-not-side_within-3 : goal.returns-then-not-side_within-3
unfolding sides_within
returns-then-not-side_within-3 c = rw (test-passes c.side_within.ensures c.if-not-side_within.false-raw, test-passes c.side_within-2.ensures c.if-not-side_within-2.false-raw, test_fails c.side_within-3.ensures c.if-not-side_within-3.true-raw)

pub overflow_mul-result : goal.overflow_mul-result
overflow_mul-result c = record { fits = omega (arith, mul-le-mul (le_trans (between-high 1 _ _ (test-passes c.side_within.ensures c.if-not-side_within.false-raw)) c.requires.side_most) (le_trans (between-high 1 _ _ (test-passes c.side_within-2.ensures c.if-not-side_within-2.false-raw)) c.requires.side_most)) }

pub overflow_mul-result-2 : goal.overflow_mul-result-2
overflow_mul-result-2 c = record { fits = omega (arith, mul-le-mul (mul-le-mul (le_trans (between-high 1 _ _ (test-passes c.side_within.ensures c.if-not-side_within.false-raw)) c.requires.side_most) (le_trans (between-high 1 _ _ (test-passes c.side_within-2.ensures c.if-not-side_within-2.false-raw)) c.requires.side_most)) (le_trans (between-high 1 _ _ (test-passes c.side_within-3.ensures c.if-not-side_within-3.false-raw)) c.requires.side_most)) }

pub returns : goal.returns
unfolding sides_within
returns c = rw (test-passes c.side_within.ensures c.if-not-side_within.false-raw, test-passes c.side_within-2.ensures c.if-not-side_within-2.false-raw, test-passes c.side_within-3.ensures c.if-not-side_within-3.false-raw)
