-- `met_after` meets its contract, case by case.
use Rattle.std.proofs.Common.{rules}
use Rattle.laid_nets.proofs.met_after.Goals as goal

pub returns-in-Some : goal.returns-in-Some
returns-in-Some c = rw c.in-Some.is

pub returns-in-None : goal.returns-in-None
returns-in-None c = rw c.in-None.is (search rules)
