-- `first_pair` meets its contract: each round takes the lesser of what was found and the pair of one cell of the path.
use Prim.Native.Nat.{◌-◌}
use lib.ListN.{length}
use borrow.Author.Rules.{rules}
use Rattle.geometry.specs.Along.{pair_with, conducts_by, lesser_place}
use Rattle.geometry.specs.LayLaws.{cells_in}
use Rattle.geometry.specs.PairLaws.{first_found, first_missing}
use Rattle.basics.specs.Folds.{Folding, fold_first, fold_next, fold_last}
use Rattle.geometry.proofs.first_pair.Goals as goal

pub loop-cell-preserved : goal.loop-cell-preserved
loop-cell-preserved c = fold_next _ _ c.loop-cell.invariant 0 c.loop-cell-test.true _ (rw (c.pair_with-found.ensures, c.as_index.ensures.0) at c.lesser_of-least.ensures)

pub returns-then-least-none : goal.returns-then-least-none
returns-then-least-none c = first_found _ c.requires.good _ _ (cells_in _ _ c.requires.all_cells) c.requires.on_path _ _ c.requires.bytes_len (fold_last _ _ c.loop-cell.invariant c.loop-cell-test.false) c.if-least-none.true

pub returns-else-least-none : goal.returns-else-least-none
returns-else-least-none c = first_missing _ c.requires.good _ _ (cells_in _ _ c.requires.all_cells) c.requires.on_path _ _ c.requires.bytes_len (fold_last _ _ c.loop-cell.invariant c.loop-cell-test.false) c.if-least-none.false
