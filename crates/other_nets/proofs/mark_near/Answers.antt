-- `mark_near` meets its contract: the cell, then its keepout.
use Rattle.other_nets.specs.OtherLaws.{near-marked}
use Rattle.other_nets.proofs.mark_near.Goals as goal

pub returns : goal.returns
returns c = near-marked _ _ _ c.mark.ensures c.electrical_keepout_for_wire.ensures
