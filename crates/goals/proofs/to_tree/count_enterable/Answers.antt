-- `count_enterable` meets its contract: each round counts one cell or passes it.
use native.Mathlib.Omega.{arith}
use Rattle.goals.specs.EnterLaws.{enterable-none, enterable-one, enterable-other, enterable-all}
use Rattle.goals.proofs.to_tree.count_enterable.Goals as goal
use Rattle.goals.proofs.to_tree.count_enterable.Goals.{else-class-ne0, then-class-ne0}

pub loop-class-init : goal.loop-class-init
loop-class-init c = enterable-none _

pub loop-class-preserved : goal.loop-class-preserved
loop-class-preserved c =
    let round = c.loop-class.invariant in
    let more = c.loop-class-test.true in
    elim c.if-class-ne0.branch [ then-class-ne0 w ↦ rw w.count-is (enterable-one round more w.if-class-ne0.true) | else-class-ne0 w ↦ rw w.count-is (enterable-other round more w.if-class-ne0.false) ]

pub returns : goal.returns
returns c = enterable-all c.loop-class.invariant (omega arith)
