-- `next_net` meets its contract: the sheet's end, the net routed, and laid.
use Rattle.list_routing.specs.StepLaws.{part-asked, answer-layable, stepped}
use mathlib.Core.Path.{refl, ◌∙◌}
use Rattle.list_routing.proofs.next_net.Goals as goal

pub route_part-answer-requires : goal.route_part-answer-requires
route_part-answer-requires c = part-asked c.requires c.sheet_end-end.ensures

pub lay_answer-requires : goal.lay_answer-requires
lay_answer-requires c = answer-layable c.requires c.sheet_end-end.ensures c.route_part-answer.ensures c.route_part-answer.auto.branches c.route_part-answer.auto.occupied c.route_part-answer.auto.planned c.route_part-answer.auto.known c.route_part-answer.auto.previous c.route_part-answer.auto.path

pub returns : goal.returns
returns c =
    stepped c.requires c.sheet_end-end.ensures c.route_part-answer.ensures c.route_part-answer.auto.branches c.route_part-answer.auto.occupied
    (record { branches = c.route_part-answer.auto.branches; lengths = c.route_part-answer.auto.lengths; owners = c.lay_answer.auto.owners; repeaters = c.route_part-answer.auto.repeaters; kinds = c.lay_answer.auto.kinds; facings = c.lay_answer.auto.facings; occupied = c.route_part-answer.auto.occupied; planned = c.route_part-answer.auto.planned; before = c.route_part-answer.auto.before; room = c.route_part-answer.auto.unlaid; blocked = c.route_part-answer.auto.blocked; classes = c.route_part-answer.auto.classes; joinable = c.route_part-answer.auto.joinable; known = c.lay_answer.auto.known ∙ c.route_part-answer.auto.known; previous = c.lay_answer.auto.previous ∙ c.route_part-answer.auto.previous; path = c.lay_answer.auto.path ∙ c.route_part-answer.auto.path; best = c.route_part-answer.auto.best; queue = c.route_part-answer.auto.queue })
    refl refl refl refl c.lay_answer.ensures
