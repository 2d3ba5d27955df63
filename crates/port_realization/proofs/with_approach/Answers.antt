-- `with_approach` meets its contract: its test is that of the definition.
use mathlib.Core.Path.{sym, ◌∙◌}
use Rattle.basics.specs.Tests.{test_fails, test-passes}
use Rattle.port_realization.specs.Ports.{approach_of}
use borrow.Author.Rules.{rules}
use Rattle.port_realization.proofs.with_approach.Goals as goal

pub returns-in_err-approach : goal.returns-in_err-approach
unfolding approach_of
returns-in_err-approach c = rw (sym c.facing_horizontal.ensures ∙ c.if-facing_horizontal.true, ← c.ahead.ensures, c.ok_or.ensures.ok_part, c.in_err-approach.was) (search rules)

pub returns-in_ok-approach : goal.returns-in_ok-approach
unfolding approach_of
returns-in_ok-approach c = rw (sym c.facing_horizontal.ensures ∙ c.if-facing_horizontal.true, ← c.ahead.ensures, c.ok_or.ensures.ok_part, c.in_ok-approach.was)

pub returns-else-facing_horizontal : goal.returns-else-facing_horizontal
unfolding approach_of
returns-else-facing_horizontal c = rw (sym c.facing_horizontal.ensures ∙ c.if-facing_horizontal.false)
