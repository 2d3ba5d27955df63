-- `mark_conductor` meets its contract: the cell, then its keepout.
use mathlib.Core.Path.{ap, ◌∙◌}
use Rattle.routing_resources.specs.Marks.{marked_by}
use Rattle.routing_resources.specs.MarkLaws.{with_or}
use Rattle.routing_resources.specs.Resources.{in_keepout}
use Rattle.outset.proofs.mark_conductor.Goals as goal

pub returns : goal.returns
returns c = c.electrical_keepout_for_wire.ensures ∙ ap (marked_by (in_keepout _ _)) c.mark.ensures ∙ with_or 1 _ _ _
