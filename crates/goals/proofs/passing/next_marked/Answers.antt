-- `next_marked` meets its contract: the loop's invariant is that all cells before are unmarked.
use native.Mathlib.Omega.{arith}
use Rattle.goals.proofs.PassingLaws.{unmarked-first, unmarked-next, marked-here, none-marked}
use Rattle.goals.proofs.passing.next_marked.Goals as goal

pub loop-cell-init : goal.loop-cell-init
loop-cell-init c = unmarked-first _ _ _ (omega arith)

pub returns-then-marks-cell-eq-MARKED : goal.returns-then-marks-cell-eq-MARKED
returns-then-marks-cell-eq-MARKED c = marked-here c.loop-cell.invariant (omega arith) (omega arith) c.if-marks-cell-eq-MARKED.true

pub loop-cell-preserved : goal.loop-cell-preserved
loop-cell-preserved c = unmarked-next c.loop-cell.invariant c.if-marks-cell-eq-MARKED.false

pub returns : goal.returns
returns c = none-marked c.loop-cell.invariant (omega arith)
