-- `bearing_of` meets its contract: its arms are the definition's tests.
use Rattle.std.proofs.Common.{arith}
use Rattle.std.proofs.lemmas.Bool.Decides.{nat_tests}
use Rattle.room_search.specs.Routing.{bearing}
use Rattle.room_search.proofs.classes.bearing_of.Goals as goal

pub returns-in-0 : goal.returns-in-0
unfolding bearing
returns-in-0 c = rw c.in-0.is

pub returns-in-1 : goal.returns-in-1
unfolding bearing
returns-in-1 c = rw c.in-1.is

pub returns-in-1-2 : goal.returns-in-1-2
unfolding bearing
returns-in-1-2 c = grind (arith, nat_tests)

pub returns-in_default : goal.returns-in_default
unfolding bearing
returns-in_default c = grind (arith, nat_tests)
