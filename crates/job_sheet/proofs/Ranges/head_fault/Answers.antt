-- `Ranges::head_fault` meets its contract: its tests are the definition's, in the same order.
use mathlib.Core.Path.{sym, ◌∙◌}
use Rattle.basics.specs.Tests.{test_fails, test-passes}
use Rattle.job_sheet.specs.Sheet.{first_fault}
use Rattle.job_sheet.specs.VersionLaws.{good-sides}
use Rattle.job_sheet.proofs.FaultLaws.{only-first}
use Rattle.job_sheet.proofs.Ranges.head_fault.Goals as goal

pub returns-then-not-sides_within : goal.returns-then-not-sides_within
unfolding first_fault
returns-then-not-sides_within c = rw (test_fails c.sides_within.ensures c.if-not-sides_within.true-raw)

pub config_within-requires : goal.config_within-requires
config_within-requires c = good-sides _ c.requires _ (test-passes c.sides_within.ensures c.if-not-sides_within.false-raw)

pub returns-then-not-config_within : goal.returns-then-not-config_within
unfolding first_fault
returns-then-not-config_within c = rw (test-passes c.sides_within.ensures c.if-not-sides_within.false-raw, test_fails c.config_within.ensures c.if-not-config_within.true-raw)

pub returns : goal.returns
unfolding first_fault
returns c = rw (test-passes c.sides_within.ensures c.if-not-sides_within.false-raw, test-passes c.config_within.ensures c.if-not-config_within.false-raw) (c.limit_fault.ensures ∙ sym (only-first _))
