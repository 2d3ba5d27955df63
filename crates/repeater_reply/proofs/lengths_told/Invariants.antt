-- `lengths_told` meets its contract: what is gathered so far stands before zeros.
use Rattle.repeater_reply.specs.ReplyLaws.{LengthsGathered}
use Rattle.repeater_reply.proofs.lengths_told.Given as goal

abbrev pub invariant-loop-k : goal.invariant-loop-k
invariant-loop-k l = LengthsGathered l.numbers l.each l.k
