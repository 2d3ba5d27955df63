-- `place_each` meets its contract: after i rounds the first i blocks are laid out.
use Rattle.job_sheet.specs.Places.{blocks_in}
use Rattle.blocks.specs.Laying.{Kept}
use Rattle.blocks.proofs.place_each.Given as goal

abbrev pub invariant-loop-i : goal.invariant-loop-i
invariant-loop-i l = Kept l.room (blocks_in l.sheet l.part) l.i l.kinds l.nodes l.found
