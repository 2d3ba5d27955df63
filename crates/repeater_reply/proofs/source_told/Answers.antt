-- `source_told` meets its contract: five numbers tell an end.
use native.Mathlib.Omega.{arith}
use Rattle.repeater_reply.specs.ReplyLaws.{source_is, source-none}
use Rattle.repeater_reply.proofs.source_told.Goals as goal

pub end_from-requires : goal.end_from-requires
end_from-requires c = omega (arith, c.if-numbers-eq-END_NUMBERS.true)

pub returns-then-numbers-eq-END_NUMBERS : goal.returns-then-numbers-eq-END_NUMBERS
returns-then-numbers-eq-END_NUMBERS c = source_is _ c.if-numbers-eq-END_NUMBERS.true c.end_from.ensures

pub returns-else-numbers-eq-END_NUMBERS : goal.returns-else-numbers-eq-END_NUMBERS
returns-else-numbers-eq-END_NUMBERS c = source-none _ c.if-numbers-eq-END_NUMBERS.false c.no_endpoint.ensures
