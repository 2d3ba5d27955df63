-- `replace` meets its contract: each round replaces the byte of one cell of the path, or keeps it.
use mathlib.Core.Path.{◌∙◌}
use mathlib.Core.Logic.{⊎_elim}
use Prim.Native.Nat.{◌-◌}
use lib.ListN.{length}
use borrow.Author.Rules.{rules}
use Rattle.geometry.specs.Along.{replaced_at}
use Rattle.geometry.specs.LayLaws.{one-put, one_kept, walk_length, walk_in}
use Rattle.basics.specs.Folds.{Folding, fold_first, fold_next, fold_last}
use Rattle.geometry.proofs.replace.Goals as goal
use Rattle.geometry.proofs.replace.Goals.{else-bytes-cell, then-bytes-cell}

pub loop-cell-preserved : goal.loop-cell-preserved
loop-cell-preserved c =
    let args = c.args in
    let bytes = c.loop-cell.bytes in
    let walk = c.loop-cell.invariant in
    let more = c.loop-cell-test.true in
    let cell = c.as_index-cell.ensures.0 in
    elim c.if-bytes-cell.branch [ then-bytes-cell w ↦ fold_next _ _ walk 0 more _ (w.bytes-is ∙ one-put _ args.new _ _ bytes cell w.if-bytes-cell.true) | else-bytes-cell w ↦ fold_next _ _ walk 0 more _ (w.bytes-is ∙ one_kept _ args.new _ _ bytes cell w.if-bytes-cell.false) ]

pub returns : goal.returns
returns c = fold_last _ _ c.loop-cell.invariant c.loop-cell-test.false
