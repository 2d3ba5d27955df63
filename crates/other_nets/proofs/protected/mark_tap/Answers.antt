-- `mark_tap` meets its contract: the terminal, then the approach.
use Rattle.other_nets.specs.OtherLaws.{tap-marked}
use Rattle.other_nets.proofs.protected.mark_tap.Goals as goal

pub returns : goal.returns
returns c = tap-marked _ _ c.args.tap c.mark_near.ensures c.mark_near-2.ensures
