-- `clear` meets its contract: a copy of 0 is 0, at each width.
use Rattle.std.proofs.Common.{arith}
use Rattle.std.proofs.lemmas.Grind.{common_steps}
use Rattle.lent.proofs.clear.Goals as goal

pub fill-requires : goal.fill-requires
fill-requires g c = g.met.T.Zero.copies _

pub returns : goal.returns
returns g c = let filled = c.fill.ensures.after (g.met.T.Zero.same _) in rw (← c.ZERO.ensures) (grind (arith, common_steps, filled))
