-- `fault_of` meets its contract: 8 of every end, then 9.
use Rattle.std.proofs.Common.{sym, ◌∙◌}
use Rattle.ends.specs.EndLaws.{fault_facing, fault_outside, fault_none}
use Rattle.ends.proofs.fault_of.Goals as goal

pub returns-in-Some : goal.returns-in-Some
returns-in-Some c = fault_facing _ _ _ (sym c.in-Some.is ∙ c.first_due.ensures)

pub returns-in_err-place : goal.returns-in_err-place
returns-in_err-place c = c.from_residual.ensures ∙ fault_none _ _ _ (sym c.in_default.is ∙ c.first_due.ensures) (sym c.in_err-place.was ∙ c.first_due-2.ensures)

pub returns : goal.returns
returns c = fault_outside _ _ _ (sym c.in_default.is ∙ c.first_due.ensures) (sym c.in_ok-place.was ∙ c.first_due-2.ensures)
