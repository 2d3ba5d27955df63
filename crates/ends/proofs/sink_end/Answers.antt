-- `sink_end` meets its contract: it is the definition.
use Rattle.ends.specs.Ends.{sink_end}
use Rattle.ends.proofs.sink_end.Goals as goal

pub returns : goal.returns
unfolding sink_end
returns c = c.realize_sink_endpoint.ensures
