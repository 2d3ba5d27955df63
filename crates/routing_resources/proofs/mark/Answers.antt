-- `mark` meets its contract: one byte written at a cell marks it and nothing else.
use Rattle.routing_resources.specs.MarkLaws.{with_set}
use Rattle.routing_resources.proofs.mark.Goals as goal

pub returns : goal.returns
returns c = with_set _ _ _
