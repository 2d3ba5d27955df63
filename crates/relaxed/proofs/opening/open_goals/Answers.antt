-- `open_goals` meets its contract. The loop's invariant: the joinable cells below are opened.
use Rattle.std.proofs.Common.{arith, ◌∙◌}
use borrow.Author.Tests.{eq-eqb}
use Rattle.relaxed.specs.OpeningLaws.{opened-none, opened-next, opened-same, opened-all}
use Rattle.relaxed.proofs.opening.open_goals.Goals as goal
use Rattle.relaxed.proofs.opening.open_goals.Goals.{else-mark-eq-MARKED, then-mark-eq-MARKED}

pub loop-cell-init : goal.loop-cell-init
loop-cell-init c = opened-none _ _ _

pub open_both-requires-clause-classes_len : goal.open_both-requires-clause-classes_len
open_both-requires-clause-classes_len c = c.loop-cell.invariant.long ∙ c.requires.classes_len

pub open_both-requires-clause-cell_bound : goal.open_both-requires-clause-cell_bound
open_both-requires-clause-cell_bound c = omega (arith, c.loop-cell-test.true, c.requires.joinable_len)

pub loop-cell-preserved : goal.loop-cell-preserved
loop-cell-preserved c =
    elim c.if-mark-eq-MARKED.branch [
      | then-mark-eq-MARKED w ↦ rw w.classes-is (opened-next c.loop-cell.invariant (eq-eqb _ _ w.if-mark-eq-MARKED.true) w.open_both.ensures)
      | else-mark-eq-MARKED w ↦ rw w.classes-is (opened-same c.loop-cell.invariant w.if-mark-eq-MARKED.false)
    ]

pub returns : goal.returns
returns c = opened-all c.loop-cell.invariant (omega (arith, c.loop-cell-test.false, c.requires.joinable_len)) (omega (arith, c.requires.joinable_len))
