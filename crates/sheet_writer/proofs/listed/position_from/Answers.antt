-- `position_from` meets its contract: each part is a number.
use mathlib.Core.Path.{◌∙◌}
use Rattle.sheet_writer.proofs.listed.position_from.Goals as goal

pub returns : goal.returns
returns c = λ i. record { x = (c.wide.ensures ∙ c.number.ensures) i; y = (c.wide-2.ensures ∙ c.number-2.ensures) i; z = (c.wide-3.ensures ∙ c.number-3.ensures) i }
