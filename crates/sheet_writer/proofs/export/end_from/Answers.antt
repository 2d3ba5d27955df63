-- `end_from` meets its contract: its codes are narrowed.
use mathlib.Core.Path.{◌∙◌, ap}
use Rattle.sheet_writer.specs.Narrow.{code_of}
use Rattle.sheet_writer.proofs.export.end_from.Goals as goal

pub returns : goal.returns
returns c = λ i. record { at = c.position_from.ensures i; port = (c.code_of.ensures ∙ ap code_of c.number.ensures) i; facing = (c.code_of-2.ensures ∙ ap code_of c.number-2.ensures) i }
