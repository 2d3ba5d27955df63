-- `is_move` meets its contract: none of the moves so far leads there.
use Rattle.repeater_plan.specs.JudgeLaws.{NoneLeads}
use Rattle.repeater_plan.proofs.judge.is_move.Given as goal

abbrev pub invariant-loop-k : goal.invariant-loop-k
invariant-loop-k l = NoneLeads l.room l.a l.b l.k
