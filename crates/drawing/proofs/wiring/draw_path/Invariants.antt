-- `draw_path` meets its contract: each round draws one cell.
use mathlib.Core.Path.{◌≡◌}
use lib.ListN.{length}
use Rattle.basics.specs.Folds.{Folding}
use Rattle.drawing.specs.Drawing.{drawn_cell}
use Rattle.drawing.proofs.wiring.draw_path.Given as goal

abbrev pub invariant-loop-cell : goal.invariant-loop-cell
invariant-loop-cell l = Folding (drawn_cell l.room l.support) l.path l.initial.kinds l.kinds l.cell-index × (length l.kinds ≡ length l.initial.kinds)
