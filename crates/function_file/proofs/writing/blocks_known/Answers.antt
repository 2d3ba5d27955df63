-- `blocks_known` meets its contract: whether all are known is whether those from the cell on are.
use mathlib.Core.Path.{refl, ◌∙◌}
use Rattle.basics.specs.Tests.{test_fails, test-passes}
use Rattle.function_file.specs.WriteLaws.{known-failed, known-passed, known-end}
use Rattle.function_file.proofs.writing.blocks_known.Goals as goal

pub loop-cell-init : goal.loop-cell-init
loop-cell-init c = refl

pub returns-then-not-block_known : goal.returns-then-not-block_known
returns-then-not-block_known c = known-failed c.args.kinds.now c.args.facings.now c.loop-cell.cell c.loop-cell-test.true (test_fails c.block_known.ensures c.if-not-block_known.true-raw) ∙ c.loop-cell.invariant

pub loop-cell-preserved : goal.loop-cell-preserved
loop-cell-preserved c = known-passed c.args.kinds.now c.args.facings.now c.loop-cell.cell c.loop-cell-test.true (test-passes c.block_known.ensures c.if-not-block_known.false-raw) ∙ c.loop-cell.invariant

pub returns : goal.returns
returns c = known-end c.args.kinds.now c.args.facings.now c.loop-cell.cell c.loop-cell-test.false ∙ c.loop-cell.invariant
