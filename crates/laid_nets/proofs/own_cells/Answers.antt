-- `own_cells` meets its contract: the net's number has place in 32 bits where no two nets have met.
use native.Mathlib.Omega.{arith}
use Rattle.laid_nets.proofs.own_cells.Goals as goal

pub overflow_cast-net : goal.overflow_cast-net
overflow_cast-net c = let h = c.requires.numbered c.in-None.is in omega arith

pub own-requires-clause-number_bound : goal.own-requires-clause-number_bound
own-requires-clause-number_bound c = c.requires.numbered c.in-None.is

pub own-requires-clause-owners_len : goal.own-requires-clause-owners_len
own-requires-clause-owners_len c = c.requires.long

pub returns-in-None : goal.returns-in-None
returns-in-None c = rw c.in-None.is c.own.ensures
