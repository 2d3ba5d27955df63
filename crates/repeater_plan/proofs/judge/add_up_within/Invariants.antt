-- `add_up_within` meets its contract: what is left, and the lengths left, come to all of them.
use Rattle.repeater_plan.specs.JudgeLaws.{TakenAway}
use Rattle.repeater_plan.proofs.judge.add_up_within.Given as goal

abbrev pub invariant-loop-length : goal.invariant-loop-length
invariant-loop-length l = TakenAway l.length-items l.cells l.left l.length-index
