-- `block_from` meets its contract: its codes are narrowed.
use mathlib.Core.Path.{◌∙◌, ap}
use Rattle.sheet_writer.specs.Narrow.{code_of, narrowed}
use Rattle.sheet_writer.proofs.listed.block_from.Goals as goal

pub returns : goal.returns
unfolding narrowed
returns c = λ i. record { node = c.number.ensures i; at = c.position_from.ensures i; kind = (c.code_of.ensures ∙ ap code_of c.number-2.ensures) i; facing = (c.code_of-2.ensures ∙ ap code_of c.number-3.ensures) i }
