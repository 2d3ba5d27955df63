-- `route_lent` keeps the promise: cleared outputs, the job's tree, cleared work memory, and after a refusal cleared outputs again.
use Rattle.net_tree.specs.LentLaws.{clean-lendable, clean-cleared, promised}
use Rattle.net_tree.proofs.entry.route_lent.Goals as goal

pub route_front-answer-requires-clause-lendable : goal.route_front-answer-requires-clause-lendable
route_front-answer-requires-clause-lendable c =
    let pre = c.requires in
    let outputs = c.clear_outputs.ensures in clean-lendable pre outputs.0 outputs.1 outputs.2

pub route_front-answer-requires-clause-outputs_clear : goal.route_front-answer-requires-clause-outputs_clear
route_front-answer-requires-clause-outputs_clear c =
    let pre = c.requires in
    let outputs = c.clear_outputs.ensures in clean-cleared pre outputs.0 outputs.1 outputs.2

pub returns-clause-promise : goal.returns-clause-promise
returns-clause-promise c = let pre = c.requires in
    let co = c.clear_outputs.ensures in
    let rf = c.route_front-answer in
    let M = c.route_front-answer.new.memory in
    let same = c.route_front-answer.ensures.same_lengths in
    let zero = c.clear.ensures.cleared in
    let se = c.settle.ensures in
    promised pre co.0 co.1 co.2 rf.ensures.routed rf.auto.branches rf.auto.occupied rf.auto.repeaters se.0 se.1 se.2
    M.kinds.now M.blocked.now M.classes.now M.joinable.now M.known.now M.previous.now M.path.now M.best.now M.queue.now
    same.kinds same.blocked same.classes same.joinable same.known same.previous same.path same.best same.queue
    zero.kinds zero.blocked zero.classes zero.joinable zero.known zero.previous zero.path zero.best zero.queue
