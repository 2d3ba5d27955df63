-- `put_marked` meets its contract: what is put, and what is left to put, are the whole.
use lib.ListN.{drop}
use Rattle.route.specs.Lines.{spaced_all}
use Rattle.route.specs.Marked.{marked_from, marked}
use Rattle.putting.specs.Putting.{PutSoFar}
use Rattle.route.proofs.lines.put_marked.Given as goal

abbrev pub invariant-loop-cell : goal.invariant-loop-cell
invariant-loop-cell l = PutSoFar l.initial.out l.at (spaced_all (marked l.marks)) (spaced_all (marked_from l.cell (drop l.cell l.marks))) l.out l.end
