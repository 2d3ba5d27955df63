-- `first_pair` meets its contract: each round takes the lesser of what was found and the pair of one cell of the path.
use Prim.Native.Nat.{◌-◌}
use lib.ListN.{length}
use borrow.Author.Rules.{rules}
use Rattle.geometry.specs.Along.{pair_with, conducts_by, lesser_place}
use Rattle.geometry.specs.LayLaws.{cells_in}
use Rattle.geometry.specs.PairLaws.{first_found, first_missing}
use Rattle.basics.specs.Folds.{Folding, fold_first, fold_next, fold_last}
use Rattle.geometry.proofs.first_pair.Given as goal

abbrev pub invariant-loop-cell : goal.invariant-loop-cell
invariant-loop-cell l = Folding (λ cell. lesser_place (pair_with l.room (conducts_by l.bytes) cell)) l.path l.none l.least l.cell-index
