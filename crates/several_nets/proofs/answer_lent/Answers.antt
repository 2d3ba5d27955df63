-- `answer_lent` meets its contract: cleared, answered, and cleared again.
use Rattle.several_nets.specs.LentLaws.{front-ready, lent-answered}
use Rattle.several_nets.proofs.answer_lent.Goals as goal

pub answer_front-answer-requires-clause-asked : goal.answer_front-answer-requires-clause-asked
answer_front-answer-requires-clause-asked c = front-ready c.requires.asked c.clear_outputs.ensures.0 c.clear_outputs.ensures.1 c.clear_outputs.ensures.2 c.clear_outputs.ensures.3 c.clear_outputs.ensures.4 c.clear_outputs.ensures.5 c.clear.ensures c.clear-2.ensures

pub returns : goal.returns
returns c =
    lent-answered c.requires.asked c.clear_outputs.ensures.0 c.clear_outputs.ensures.1 c.clear_outputs.ensures.2 c.clear_outputs.ensures.3 c.clear_outputs.ensures.4 c.clear_outputs.ensures.5 c.clear.ensures c.clear-2.ensures c.answer_front-answer.ensures
    (record { branches = c.answer_front-answer.auto.branches; lengths = c.answer_front-answer.auto.lengths; owners = c.answer_front-answer.auto.owners; repeaters = c.answer_front-answer.auto.repeaters; kinds = c.answer_front-answer.auto.kinds; facings = c.answer_front-answer.auto.facings; occupied = c.answer_front-answer.auto.occupied; planned = c.answer_front-answer.auto.planned; before = c.answer_front-answer.auto.before; room = c.answer_front-answer.auto.unlaid; blocked = c.answer_front-answer.auto.blocked; classes = c.answer_front-answer.auto.classes; joinable = c.answer_front-answer.auto.joinable; known = c.answer_front-answer.auto.known; previous = c.answer_front-answer.auto.previous; path = c.answer_front-answer.auto.path; best = c.answer_front-answer.auto.best; queue = c.answer_front-answer.auto.queue })
    c.settle.ensures.0 c.settle.ensures.1 c.settle.ensures.2 c.settle.ensures.3 c.settle.ensures.4 c.settle.ensures.5
    c.clear_marks.ensures.0 c.clear_marks.ensures.1 c.clear_marks.ensures.2 c.clear_work.ensures.0 c.clear_work.ensures.1 c.clear_work.ensures.2 c.clear_work.ensures.3 c.clear_work.ensures.4 c.clear_work.ensures.5 c.clear_work.ensures.6 c.clear_work.ensures.7 c.clear_work.ensures.8
