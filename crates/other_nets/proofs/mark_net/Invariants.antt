-- `mark_net` meets its contract: the source's terminal, then each round one branch.
use Rattle.other_nets.specs.OtherLaws.{MarkingNet}
use Rattle.other_nets.proofs.mark_net.Given as goal

abbrev pub invariant-loop-length : goal.invariant-loop-length
invariant-loop-length l = MarkingNet l.room l.fn.lengths l.branches l.initial.marks l.marks l.from l.length-index
