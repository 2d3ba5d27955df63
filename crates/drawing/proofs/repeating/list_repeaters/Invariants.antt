-- `list_repeaters` meets its contract: each round passes one place of the path.
use lib.ListN.{length}
use Rattle.drawing.specs.Listing.{ListedSoFar}
use Rattle.drawing.proofs.repeating.list_repeaters.Given as goal

abbrev pub invariant-loop-i : goal.invariant-loop-i
invariant-loop-i l =
    ListedSoFar l.room l.run l.path l.initial.kinds (length l.initial.cells) (length l.initial.facings) l.kinds l.cells l.facings l.listed l.count l.i
