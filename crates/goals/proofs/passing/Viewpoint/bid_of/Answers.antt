-- `bid_of` meets its contract.
use Rattle.goals.specs.Passing.{bid_of}
use Rattle.goals.proofs.passing.Viewpoint.bid_of.Goals as goal

pub returns : goal.returns
unfolding bid_of
returns c = rw (c.as_long.ensures, c.least_to.ensures)
