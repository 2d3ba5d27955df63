-- `mark_tap` meets its contract: the terminal, then the approach.
use mathlib.Core.Path.{refl}
use Rattle.repeaters.specs.NetEndLaws.{end_marked}
use Rattle.repeaters.proofs.net_ends.mark_tap.Goals as goal

pub returns : goal.returns
returns c = end_marked _ c.args.tap refl c.mark.ensures c.mark-2.ensures
