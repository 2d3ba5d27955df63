-- `place_facings` meets its contract: the blocks from the one at hand on have their facings in their cells.
use Rattle.std.proofs.Common.{◌≤◌}
use Rattle.laid_nets.specs.FacingLaws.{FacingsFrom}
use Rattle.job_sheet.specs.Places.{blocks_in}
use Rattle.laid_nets.proofs.place_facings.Given as goal

abbrev pub invariant-loop-i : goal.invariant-loop-i
invariant-loop-i l = (l.i ≤ l.part.count) × FacingsFrom l.room (blocks_in l.sheet l.part) l.i l.facings
