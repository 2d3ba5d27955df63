-- `draw_path` meets its contract: each round draws one cell.
use mathlib.Core.Path.{refl, ◌∙◌}
use Rattle.basics.specs.Folds.{fold_first, fold_next, fold_last}
use Rattle.drawing.proofs.wiring.draw_path.Goals as goal

pub loop-cell-init : goal.loop-cell-init
loop-cell-init c = (fold_first _ _ _, refl)

pub draw_cell-requires-clause-good : goal.draw_cell-requires-clause-good
draw_cell-requires-clause-good c =
    let pre = c.requires in pre.good

pub draw_cell-requires-clause-kinds_len : goal.draw_cell-requires-clause-kinds_len
draw_cell-requires-clause-kinds_len c =
    let pre = c.requires in c.loop-cell.invariant.1 ∙ pre.kinds-long

pub draw_cell-requires-clause-cell_bound : goal.draw_cell-requires-clause-cell_bound
draw_cell-requires-clause-cell_bound c =
    let pre = c.requires in rw c.as_index.ensures.0 (pre.path_in.below c.loop-cell.cell-index c.loop-cell-test.true)

pub loop-cell-preserved : goal.loop-cell-preserved
loop-cell-preserved c =
    let inv = c.loop-cell.invariant in
    (fold_next _ _ inv.0 0 c.loop-cell-test.true _ (rw c.as_index.ensures.0 at c.draw_cell.ensures), c.draw_cell.auto.kinds ∙ inv.1)

pub returns : goal.returns
returns c = fold_last _ _ c.loop-cell.invariant.0 c.loop-cell-test.false
