-- `why_lent` keeps the promise: told where number 13 or 14 is due, settled where another is.
use mathlib.Core.Path.{sym, ◌∙◌}
use Rattle.sink_why.specs.WhyLaws.{tree-front, promise_told, promise_untold}
use Rattle.sink_why.proofs.entry.why_lent.Goals as goal

pub tell_stopped-told-requires : goal.tell_stopped-told-requires
tell_stopped-told-requires c = tree-front c.requires c.route_net_tree-answer.ensures c.end_number-number.ensures (sym c.asks_why.ensures ∙ c.if-asks_why.true)

pub returns-then-asks_why-clause-promise : goal.returns-then-asks_why-clause-promise
returns-then-asks_why-clause-promise c = promise_told c.requires c.route_net_tree-answer.ensures c.end_number-number.ensures (sym c.asks_why.ensures ∙ c.if-asks_why.true) c.tell_stopped-told.ensures.sink_reasoned c.tell_stopped-told.ensures.stopped_told c.why_with.ensures

pub returns-clause-promise : goal.returns-clause-promise
returns-clause-promise c = promise_untold c.requires c.route_net_tree-answer.ensures c.end_number-number.ensures (sym c.asks_why.ensures ∙ c.if-asks_why.false) c.settle.ensures.0 c.settle.ensures.1 c.settle.ensures.2 c.why_with-2.ensures
