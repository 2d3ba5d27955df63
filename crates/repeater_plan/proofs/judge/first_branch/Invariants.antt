-- `first_branch` meets its contract: the fault so far and the branches that are left come to that of all.
use Rattle.repeater_plan.specs.JudgeLaws.{BranchesScanned}
use Rattle.repeater_plan.proofs.judge.first_branch.Given as goal

abbrev pub invariant-loop-length : goal.invariant-loop-length
invariant-loop-length l = BranchesScanned l.room l.length-items l.branches l.initial.fault l.fault l.from l.length-index
