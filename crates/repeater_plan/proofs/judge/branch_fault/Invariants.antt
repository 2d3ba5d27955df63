-- `branch_fault` meets its contract: the places so far are good.
use Rattle.repeater_plan.specs.JudgeLaws.{PlacesGood}
use Rattle.repeater_plan.proofs.judge.branch_fault.Given as goal

abbrev pub invariant-loop-i : goal.invariant-loop-i
invariant-loop-i l = PlacesGood l.room l.branch l.i
