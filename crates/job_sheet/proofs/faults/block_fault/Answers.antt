-- `block_fault` meets its contract: its tests are the definition's, in the same order.
use mathlib.Core.Path.{sym, ◌∙◌}
use borrow.Author.Tests.{eq-eqb, ne_eqb}
use Rattle.basics.specs.Tests.{test_fails, test-passes}
use Rattle.job_sheet.specs.Sheet.{first_fault, block_fault}
use Rattle.job_sheet.proofs.faults.block_fault.Goals as goal

pub returns-then-not-within : goal.returns-then-not-within
unfolding block_fault first_fault
returns-then-not-within c = rw (test_fails c.within.ensures c.if-not-within.true-raw)

pub returns-then-not-kind_known : goal.returns-then-not-kind_known
unfolding block_fault first_fault
returns-then-not-kind_known c = rw (test-passes c.within.ensures c.if-not-within.false-raw, test_fails c.kind_known.ensures c.if-not-kind_known.true-raw)

pub returns-then-block-eq-AIR : goal.returns-then-block-eq-AIR
unfolding block_fault first_fault
returns-then-block-eq-AIR c = rw (test-passes c.within.ensures c.if-not-within.false-raw, test-passes c.kind_known.ensures c.if-not-kind_known.false-raw, eq-eqb _ _ c.if-block-eq-AIR.true)

pub returns-then-facing_known : goal.returns-then-facing_known
unfolding block_fault first_fault
returns-then-facing_known c = rw (test-passes c.within.ensures c.if-not-within.false-raw, test-passes c.kind_known.ensures c.if-not-kind_known.false-raw, ne_eqb _ _ c.if-block-eq-AIR.false, sym c.facing_known.ensures ∙ c.if-facing_known.true)

pub returns-else-facing_known : goal.returns-else-facing_known
unfolding block_fault first_fault
returns-else-facing_known c = rw (test-passes c.within.ensures c.if-not-within.false-raw, test-passes c.kind_known.ensures c.if-not-kind_known.false-raw, ne_eqb _ _ c.if-block-eq-AIR.false, sym c.facing_known.ensures ∙ c.if-facing_known.false)
