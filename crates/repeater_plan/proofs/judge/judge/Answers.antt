-- `judge` meets its contract: the room, the run limit, then record by record.
use mathlib.Core.Path.{sym, ◌∙◌}
use Rattle.room.specs.RoomLaws.{good}
use Rattle.repeater_plan.specs.JudgeLaws.{judged-sides, judged-limit, judged-rest}
use Rattle.repeater_plan.proofs.judge.judge.Goals as goal

pub returns-then-not-good : goal.returns-then-not-good
returns-then-not-good c = judged-sides _ (sym c.good.ensures ∙ c.if-not-good.true)

pub returns-then-not-is_good : goal.returns-then-not-is_good
returns-then-not-is_good c = judged-limit _ (sym c.good.ensures ∙ c.if-not-good.false) c.limit_fault-limit.ensures (sym c.is_good.ensures ∙ c.if-not-is_good.true)

pub first_sink-fault-requires : goal.first_sink-fault-requires
first_sink-fault-requires c = c.requires.0

pub first_branch-requires-clause-good : goal.first_branch-requires-clause-good
first_branch-requires-clause-good c = good _ (sym c.good.ensures ∙ c.if-not-good.false)

pub first_branch-requires-clause-each_len : goal.first_branch-requires-clause-each_len
first_branch-requires-clause-each_len c = c.requires.1

pub returns : goal.returns
returns c = judged-rest _ (sym c.good.ensures ∙ c.if-not-good.false) c.limit_fault-limit.ensures (sym c.is_good.ensures ∙ c.if-not-is_good.false) c.endpoint_fault-fault.ensures c.first_sink-fault.ensures c.first_branch.ensures
