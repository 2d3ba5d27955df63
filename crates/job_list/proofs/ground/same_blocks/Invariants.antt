-- `same_blocks` meets its contract. The loop's invariant: what is left of both lists is compared as the whole lists are.
use Rattle.job_sheet.specs.Places.{blocks_in}
use Rattle.job_list.specs.Grounds.{SameSoFar}
use Rattle.job_list.proofs.ground.same_blocks.Given as goal

abbrev pub invariant-loop-i : goal.invariant-loop-i
invariant-loop-i l = SameSoFar (blocks_in l.first l.a) (blocks_in l.sheet l.b) l.i
