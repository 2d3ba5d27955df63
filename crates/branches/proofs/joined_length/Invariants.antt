-- `joined_length` meets its contract: each round adds one length.
use Rattle.branches.specs.LoopLaws.{Summed}
use Rattle.branches.proofs.joined_length.Given as goal

abbrev pub invariant-loop-length : goal.invariant-loop-length
invariant-loop-length l = Summed l.length-items l.sum l.length-index
