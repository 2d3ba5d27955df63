-- `judge_others` meets its contract. The loop's invariant: what is left of the list is judged as all of it behind the first sheet.
use Prim.Native.Nat.{◌-◌}
use lib.ListN.{length}
use Rattle.job_list.specs.JudgeLaws.{JudgedSoFar}
use Rattle.job_list.proofs.judge.judge_others.Given as goal

abbrev pub invariant-loop-place : goal.invariant-loop-place
invariant-loop-place l = JudgedSoFar l.memory l.list l.net l.place

abbrev pub decreases-loop-place : goal.decreases-loop-place
decreases-loop-place l = length l.list - l.place
