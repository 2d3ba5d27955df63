-- `next_marked` meets its contract: the loop's invariant is that all cells before are unmarked.
use Rattle.goals.proofs.PassingLaws.{Unmarked}
use Rattle.goals.proofs.passing.next_marked.Given as goal

abbrev pub invariant-loop-cell : goal.invariant-loop-cell
invariant-loop-cell l = Unmarked l.marks l.from l.cell
