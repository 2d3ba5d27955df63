-- `take_out_tap` meets its contract: the terminal, then the approach.
use Rattle.outset.specs.OutsetLaws.{out-tap}
use Rattle.outset.proofs.take_out_tap.Goals as goal

pub returns : goal.returns
returns c = out-tap _ _ c.args.tap c.take_out.ensures c.take_out-2.ensures
