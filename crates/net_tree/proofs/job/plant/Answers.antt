-- `plant` meets its contract: the marks are cleared, and one is made.
use mathlib.Core.Path.{ap, ◌∙◌}
use lib.Dec.{eqb}
use Rattle.routing_resources.specs.Marks.{marked_by}
use Rattle.net_tree.proofs.job.plant.Goals as goal

pub returns : goal.returns
returns c = c.mark.ensures ∙ ap (marked_by (eqb _)) c.clear.ensures
