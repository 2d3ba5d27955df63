-- `replace` meets its contract: each round replaces the byte of one cell of the path, or keeps it.
use mathlib.Core.Path.{◌∙◌}
use mathlib.Core.Logic.{⊎_elim}
use Prim.Native.Nat.{◌-◌}
use lib.ListN.{length}
use borrow.Author.Rules.{rules}
use Rattle.geometry.specs.Along.{replaced_at}
use Rattle.geometry.specs.LayLaws.{one-put, one_kept, walk_length, walk_in}
use Rattle.basics.specs.Folds.{Folding, fold_first, fold_next, fold_last}
use Rattle.geometry.proofs.replace.Given as goal

abbrev pub invariant-loop-cell : goal.invariant-loop-cell
invariant-loop-cell l = Folding (replaced_at l.old l.new) l.path l.initial.bytes l.bytes l.cell-index
