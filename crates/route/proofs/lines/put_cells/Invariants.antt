-- `put_cells` meets its contract: what is put, and what is left to put, are the whole.
use lib.ListN.{drop}
use Rattle.route.specs.Lines.{spaced_all}
use Rattle.putting.specs.Putting.{PutSoFar}
use Rattle.route.proofs.lines.put_cells.Given as goal

abbrev pub invariant-loop-cell : goal.invariant-loop-cell
invariant-loop-cell l = PutSoFar l.initial.out l.at (spaced_all l.cells) (spaced_all (drop l.cell-index l.cells)) l.out l.end
