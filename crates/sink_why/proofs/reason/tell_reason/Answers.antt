-- `tell_reason` meets its contract: by the number that is due and by the verdict.
use borrow.Author.Tests.{not-true, not-false}
use Rattle.sink_why.specs.ReasonLaws.{reason-cut, reason_open, reason-shut}
use Rattle.sink_why.proofs.reason.tell_reason.Goals as goal

pub returns-then-not-stopping-clause-reason_told : goal.returns-then-not-stopping-clause-reason_told
returns-then-not-stopping-clause-reason_told c = let a = c.args in reason-cut a.ground a.sheet.now a.stopping a.approach a.branches.now a.memory.now.kinds.now a.memory.now.blocked.now a.memory.now.joinable.now a.reached.now a.walls.now a.causes.now (not-true a.stopping.unreached c.if-not-stopping.true) c.clear_outputs.ensures.0 c.clear_outputs.ensures.1 c.clear_outputs.ensures.2

pub tell_sink-verdict-requires : goal.tell_sink-verdict-requires
tell_sink-verdict-requires c = c.requires.sink

pub returns-then-verdict-ne-SHUT_IN-clause-reason_told : goal.returns-then-verdict-ne-SHUT_IN-clause-reason_told
returns-then-verdict-ne-SHUT_IN-clause-reason_told c = let a = c.args in reason_open a.ground a.sheet.now a.stopping a.approach a.branches.now a.memory.now.kinds.now a.memory.now.blocked.now a.memory.now.joinable.now a.reached.now a.walls.now a.causes.now (not-false a.stopping.unreached c.if-not-stopping.false) c.tell_sink-verdict.ensures c.if-verdict-ne-SHUT_IN.true c.tell_sink-verdict.auto.reached c.tell_sink-verdict.auto.walls c.clear_outputs-then-verdict-ne-SHUT_IN.ensures.0 c.clear_outputs-then-verdict-ne-SHUT_IN.ensures.1 c.clear_outputs-then-verdict-ne-SHUT_IN.ensures.2

pub tell_blocked-requires : goal.tell_blocked-requires
tell_blocked-requires c = c.requires.blocking

pub returns-clause-reason_told : goal.returns-clause-reason_told
returns-clause-reason_told c = let a = c.args in reason-shut a.ground a.sheet.now a.stopping a.approach a.branches.now a.memory.now.kinds.now a.memory.now.blocked.now a.memory.now.joinable.now a.reached.now a.walls.now a.causes.now (not-false a.stopping.unreached c.if-not-stopping.false) c.tell_sink-verdict.ensures c.if-verdict-ne-SHUT_IN.false c.tell_blocked.ensures.blocked_told
