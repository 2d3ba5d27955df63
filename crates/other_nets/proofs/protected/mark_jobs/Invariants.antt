-- `mark_jobs` meets its contract. The loop's invariant: those of the jobs left, with the marks of now, make all.
use Prim.Native.Nat.{◌-◌}
use lib.ListN.{length}
use Rattle.other_nets.specs.OtherLaws.{MarkingJobs}
use Rattle.other_nets.proofs.protected.mark_jobs.Given as goal

abbrev pub invariant-loop-place : goal.invariant-loop-place
invariant-loop-place l = MarkingJobs l.room l.list l.net l.initial.marks l.marks l.place l.k

abbrev pub decreases-loop-place : goal.decreases-loop-place
decreases-loop-place l = length l.list - l.place
