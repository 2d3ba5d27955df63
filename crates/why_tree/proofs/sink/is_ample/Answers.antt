-- `is_ample` meets its contract: its tests are the definition's.
use native.Mathlib.Omega.{arith}
use mathlib.Core.Path.{sym, ◌∙◌}
use borrow.Author.Tests.{leb-true, leb-false}
use Rattle.why_tree.proofs.TellingLaws.{ample-flat, ample_stair, ample-limit, some-cell}
use Rattle.why_tree.proofs.sink.is_ample.Goals as goal
use Rattle.why_tree.proofs.sink.is_ample.Goals.{then-config-ge10, else-config-ge10}

pub overflow_sub-result : goal.overflow_sub-result
overflow_sub-result c = omega (arith, c.volume.ensures, some-cell c.args.room c.requires)

pub returns-then-estimates_hold : goal.returns-then-estimates_hold
returns-then-estimates_hold c =
    elim c.if-config-ge10.branch [
      | then-config-ge10 w ↦ rw (c.volume.ensures, c.as_index.ensures.0) (ample-limit _ _ w.if-config-ge10.true (leb-true _ _ (sym w.estimates_hold-is ∙ c.if-estimates_hold.true)))
      | else-config-ge10 w ↦ absurd (omega (arith, leb-true _ _ (sym w.estimates_hold-is ∙ c.if-estimates_hold.true), w.if-config-ge10.false))
    ]

pub returns-else-estimates_hold : goal.returns-else-estimates_hold
returns-else-estimates_hold c =
    elim c.if-config-ge10.branch [
      | then-config-ge10 w ↦ c.if-estimates_hold.false ∙ ample_stair _ _ w.if-config-ge10.true (leb-false _ _ (sym w.estimates_hold-is ∙ c.if-estimates_hold.false))
      | else-config-ge10 w ↦ c.if-estimates_hold.false ∙ ample-flat _ _ w.if-config-ge10.false
    ]
