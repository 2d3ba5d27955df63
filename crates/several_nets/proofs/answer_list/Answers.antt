-- `answer_list` meets its contract: the room set, then a number that is due, or the walk.
use Rattle.several_nets.specs.AnswerLaws.{first-asked, answered-told, walking-first, answered-walk}
use Rattle.job_list.specs.Told.{verdict_of}
use mathlib.Core.Path.{ap}
use Rattle.several_nets.proofs.answer_list.Goals as goal

pub set_first-placement-requires : goal.set_first-placement-requires
set_first-placement-requires c = first-asked c.requires.asked

pub returns-in-Err : goal.returns-in-Err
returns-in-Err c = answered-told c.requires.asked c.requires.told c.set_first-placement.ensures c.args.mode c.in-Err.is c.detail_for.ensures

pub walk_list-walk-requires : goal.walk_list-walk-requires
walk_list-walk-requires c = walking-first c.requires.asked c.set_first-placement.ensures c.args.mode (ap (λ j. (verdict_of j).number) c.in_default.is) _ c.set_first-placement.auto.kinds c.set_first-placement.auto.facings c.set_first-placement.auto.known

pub returns : goal.returns
returns c = answered-walk c.requires.asked c.set_first-placement.ensures c.args.mode (ap (λ j. (verdict_of j).number) c.in_default.is) _ c.set_first-placement.auto.kinds c.set_first-placement.auto.facings c.set_first-placement.auto.known c.walk_list-walk.ensures c.answer_for.ensures
