-- `Labelled::labels_agree` meets its contract.
use Rattle.std.proofs.Common.{refl, arith}
use Rattle.basics.specs.Tests.{test-passes}
use Rattle.relaxed.specs.CheckLaws.{cells-none, cells-next, cells-all, labels_fail}
use Rattle.relaxed.proofs.check.Labelled.labels_agree.Goals as goal

pub returns-then-self-start-ne1 : goal.returns-then-self-start-ne1
returns-then-self-start-ne1 c = labels_fail

pub loop-cell-init : goal.loop-cell-init
loop-cell-init c = cells-none

pub returns-then-not-cell_agrees : goal.returns-then-not-cell_agrees
returns-then-not-cell_agrees c = labels_fail

pub loop-cell-preserved : goal.loop-cell-preserved
loop-cell-preserved c = cells-next c.loop-cell.invariant c.cell_agrees.ensures (test-passes refl c.if-not-cell_agrees.false-raw)

pub returns : goal.returns
returns c = cells-all c.loop-cell.invariant (omega (arith, c.loop-cell-test.false, c.args.self.now.fits.labels_long)) c.if-self-start-ne1.false _
