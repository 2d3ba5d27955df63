-- `copy_cells` meets its contract: the law of the copying loop.
use Rattle.basics.specs.Copies.{Copied}
use Rattle.goals.proofs.cheapest.copy_cells.Given as goal

abbrev pub invariant-loop-i : goal.invariant-loop-i
invariant-loop-i l = Copied l.from l.initial.to 0 l.count l.i l.to
