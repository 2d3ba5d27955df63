-- `ordered_move` meets its contract: the table is the definition's list of places.
use mathlib.Core.Path.{◌∙◌}
use Rattle.repeaters.specs.MaskLaws.{order_in, order_is}
use Rattle.repeaters.proofs.links.ordered_move.Goals as goal

pub move_at-requires : goal.move_at-requires
move_at-requires c = order_in _ c.requires

pub returns : goal.returns
returns c = c.move_at.ensures ∙ order_is _ c.requires
