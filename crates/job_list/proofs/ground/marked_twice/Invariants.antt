-- `marked_twice` meets its contract. The loop's invariant: the blocks so far have cells of their own, all marked, and what is left decides.
use mathlib.Core.Path.{◌≡◌}
use lib.ListN.{length}
use Rattle.job_sheet.specs.Places.{blocks_in}
use Rattle.job_list.specs.Grounds.{MarkedApart}
use Rattle.job_list.proofs.ground.marked_twice.Given as goal

abbrev pub invariant-loop-i : goal.invariant-loop-i
invariant-loop-i l = (length l.seen ≡ length l.initial.seen) × MarkedApart l.room (blocks_in l.sheet l.part) l.seen l.i
