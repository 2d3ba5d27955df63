-- `unmark` meets its contract: one byte written at a cell takes its mark away and nothing else.
use Rattle.routing_resources.specs.MarkLaws.{with_set}
use Rattle.routing_resources.proofs.unmark.Goals as goal

pub returns : goal.returns
returns c = with_set _ _ _
