-- `why_and_tell` keeps its promise: too few values, or the answer, told.
use Rattle.sink_reply.specs.SinkReplyLaws.{why-short, why-told}
use borrow.Author.Rules.{rules}
use Rattle.sink_reply.proofs.why_and_tell.Goals as goal

pub returns-then-values-lt-VALUES : goal.returns-then-values-lt-VALUES
returns-then-values-lt-VALUES c = why-short c.if-values-lt-VALUES.true c.short_number.ensures

pub tell_why-requires : goal.tell_why-requires
tell_why-requires c = c.if-values-lt-VALUES.false

pub returns : goal.returns
returns c = why-told c.if-values-lt-VALUES.false (rw c.mode_of-mode.ensures at c.why_no_goal-why.ensures) c.tell_why.ensures.value c.tell_why.ensures.values_after
