-- `cell_source_keepout` meets its contract: each round marks the keepout that one block asks for.
use Rattle.routing_resources.specs.MarkLaws.{MarkedSoFar, rest_of}
use Rattle.job_sheet.specs.Places.{blocks_in}
use Rattle.outset.specs.Outset.{block_keepout}
use Rattle.outset.proofs.cell_source_keepout.Given as goal

abbrev pub invariant-loop-i : goal.invariant-loop-i
invariant-loop-i l = MarkedSoFar 1 (rest_of (block_keepout l.room l.kinds l.nodes) (blocks_in l.sheet l.part)) l.initial.marks l.marks l.i
