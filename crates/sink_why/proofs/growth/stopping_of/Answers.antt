-- `stopping_of` meets its contract: a growth that ended early is told by its end.
use Rattle.sink_why.proofs.growth.stopping_of.Goals as goal

pub returns : goal.returns
returns c = rw c.is_no_goal.ensures
