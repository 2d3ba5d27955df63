-- `route_nets` meets its contract: judged; 1 to 6 touch nothing.
use Rattle.list_routing.specs.ListLent.{list_lent}
use Rattle.job_list.specs.Told.{verdict-told, told-itself}
use Rattle.several_nets.specs.Answers.{memory_of}
use Rattle.several_nets.specs.EntryLaws.{judged-by, past-untouched, untouched-told, lent_promise}
use Rattle.several_nets.specs.FirstLaws.{lent-asked}
use Rattle.std.proofs.lemmas.Result.{err_from_is_err_and}
use mathlib.Core.Path.{sym, ◌∙◌}
use Rattle.several_nets.proofs.route_nets.Goals as goal

pub returns-in_err-refuse_untouched : goal.returns-in_err-refuse_untouched
returns-in_err-refuse_untouched c = let p = err_from_is_err_and c.from_residual.result c.from_residual.ensures.1 in rw (p.1, p.2) (untouched-told c.args.mode c.args.list.now (list_lent c.args.branches.now c.args.lengths.now c.args.owners.now c.args.repeaters.now c.args.kinds.now c.args.facings.now c.args.occupied.now c.args.planned.now c.args.before.now c.args.unlaid.now c.args.blocked.now c.args.classes.now c.args.joinable.now c.args.known.now c.args.previous.now c.args.path.now c.args.best.now c.args.queue.now) _ (judged-by c.args.list.now (list_lent c.args.branches.now c.args.lengths.now c.args.owners.now c.args.repeaters.now c.args.kinds.now c.args.facings.now c.args.occupied.now c.args.planned.now c.args.before.now c.args.unlaid.now c.args.blocked.now c.args.classes.now c.args.joinable.now c.args.known.now c.args.previous.now c.args.path.now c.args.best.now c.args.queue.now) c.least_of-cells.ensures c.judge_list-judged.ensures) (sym c.in_err-refuse_untouched.was ∙ c.refuse_untouched.ensures))

pub answer_lent-requires-clause-told : goal.answer_lent-requires-clause-told
answer_lent-requires-clause-told c = told-itself (memory_of (list_lent c.args.branches.now c.args.lengths.now c.args.owners.now c.args.repeaters.now c.args.kinds.now c.args.facings.now c.args.occupied.now c.args.planned.now c.args.before.now c.args.unlaid.now c.args.blocked.now c.args.classes.now c.args.joinable.now c.args.known.now c.args.previous.now c.args.path.now c.args.best.now c.args.queue.now)) c.args.list.now (judged-by c.args.list.now (list_lent c.args.branches.now c.args.lengths.now c.args.owners.now c.args.repeaters.now c.args.kinds.now c.args.facings.now c.args.occupied.now c.args.planned.now c.args.before.now c.args.unlaid.now c.args.blocked.now c.args.classes.now c.args.joinable.now c.args.known.now c.args.previous.now c.args.path.now c.args.best.now c.args.queue.now) c.least_of-cells.ensures c.judge_list-judged.ensures)

pub answer_lent-requires-clause-asked : goal.answer_lent-requires-clause-asked
answer_lent-requires-clause-asked c = lent-asked c.args.list.now (list_lent c.args.branches.now c.args.lengths.now c.args.owners.now c.args.repeaters.now c.args.kinds.now c.args.facings.now c.args.occupied.now c.args.planned.now c.args.before.now c.args.unlaid.now c.args.blocked.now c.args.classes.now c.args.joinable.now c.args.known.now c.args.previous.now c.args.path.now c.args.best.now c.args.queue.now) (verdict-told (memory_of (list_lent c.args.branches.now c.args.lengths.now c.args.owners.now c.args.repeaters.now c.args.kinds.now c.args.facings.now c.args.occupied.now c.args.planned.now c.args.before.now c.args.unlaid.now c.args.blocked.now c.args.classes.now c.args.joinable.now c.args.known.now c.args.previous.now c.args.path.now c.args.best.now c.args.queue.now)) c.args.list.now (judged-by c.args.list.now (list_lent c.args.branches.now c.args.lengths.now c.args.owners.now c.args.repeaters.now c.args.kinds.now c.args.facings.now c.args.occupied.now c.args.planned.now c.args.before.now c.args.unlaid.now c.args.blocked.now c.args.classes.now c.args.joinable.now c.args.known.now c.args.previous.now c.args.path.now c.args.best.now c.args.queue.now) c.least_of-cells.ensures c.judge_list-judged.ensures)) (past-untouched c.judge_list-judged.result (sym c.in_ok-refuse_untouched.was ∙ c.refuse_untouched.ensures))

pub returns : goal.returns
returns c = lent_promise c.args.mode c.args.list.now (list_lent c.args.branches.now c.args.lengths.now c.args.owners.now c.args.repeaters.now c.args.kinds.now c.args.facings.now c.args.occupied.now c.args.planned.now c.args.before.now c.args.unlaid.now c.args.blocked.now c.args.classes.now c.args.joinable.now c.args.known.now c.args.previous.now c.args.path.now c.args.best.now c.args.queue.now) (verdict-told (memory_of (list_lent c.args.branches.now c.args.lengths.now c.args.owners.now c.args.repeaters.now c.args.kinds.now c.args.facings.now c.args.occupied.now c.args.planned.now c.args.before.now c.args.unlaid.now c.args.blocked.now c.args.classes.now c.args.joinable.now c.args.known.now c.args.previous.now c.args.path.now c.args.best.now c.args.queue.now)) c.args.list.now (judged-by c.args.list.now (list_lent c.args.branches.now c.args.lengths.now c.args.owners.now c.args.repeaters.now c.args.kinds.now c.args.facings.now c.args.occupied.now c.args.planned.now c.args.before.now c.args.unlaid.now c.args.blocked.now c.args.classes.now c.args.joinable.now c.args.known.now c.args.previous.now c.args.path.now c.args.best.now c.args.queue.now) c.least_of-cells.ensures c.judge_list-judged.ensures)) c.answer_lent.ensures
