-- `endpoint_fault` meets its contract: its tests are the definition's, in the same order.
use mathlib.Core.Path.{sym, ◌∙◌}
use Rattle.basics.specs.Tests.{test_fails, test-passes}
use Rattle.job_sheet.specs.Sheet.{first_fault, endpoint_fault}
use Rattle.job_sheet.proofs.faults.endpoint_fault.Goals as goal

pub returns-then-not-within : goal.returns-then-not-within
unfolding endpoint_fault first_fault
returns-then-not-within c = rw (test_fails c.within.ensures c.if-not-within.true-raw)

pub returns-then-not-port_known : goal.returns-then-not-port_known
unfolding endpoint_fault first_fault
returns-then-not-port_known c = rw (test-passes c.within.ensures c.if-not-within.false-raw, test_fails c.port_known.ensures c.if-not-port_known.true-raw)

pub returns-then-facing_known : goal.returns-then-facing_known
unfolding endpoint_fault first_fault
returns-then-facing_known c = rw (test-passes c.within.ensures c.if-not-within.false-raw, test-passes c.port_known.ensures c.if-not-port_known.false-raw, sym c.facing_known.ensures ∙ c.if-facing_known.true)

pub returns-else-facing_known : goal.returns-else-facing_known
unfolding endpoint_fault first_fault
returns-else-facing_known c = rw (test-passes c.within.ensures c.if-not-within.false-raw, test-passes c.port_known.ensures c.if-not-port_known.false-raw, sym c.facing_known.ensures ∙ c.if-facing_known.false)
