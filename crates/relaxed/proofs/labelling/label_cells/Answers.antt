-- `label_cells` meets its contract: the labels are those of the open cells, and the class bytes say again what is seen.
use Rattle.blocked_world.specs.SeenLaws.{says-one}
use Rattle.relaxed.specs.OpeningLaws.{shut_none}
use Rattle.relaxed.proofs.labelling.label_cells.Goals as goal

pub shut_goals-requires-clause-world_fits : goal.shut_goals-requires-clause-world_fits
shut_goals-requires-clause-world_fits c =
    let pre = c.requires in record { good = pre.good; kinds-long = pre.kinds-long; blocked-long = pre.blocked-long }

pub shut_goals-requires-clause-joinable_len : goal.shut_goals-requires-clause-joinable_len
shut_goals-requires-clause-joinable_len c =
    let pre = c.requires in pre.joinable-long

pub shut_goals-requires-clause-shut_below : goal.shut_goals-requires-clause-shut_below
shut_goals-requires-clause-shut_below c =
    let pre = c.requires in shut_none _ _ pre.good _ _ _ _ c.open_goals.ensures pre.says

pub returns-clause-turn_told : goal.returns-clause-turn_told
returns-clause-turn_told c =
    let pre = c.requires in record { told = λ yes. record { bytes = _; opened = c.open_goals.ensures; are = c.label_open-labelled.ensures.told yes } }

pub returns-clause-classes_unchanged : goal.returns-clause-classes_unchanged
returns-clause-classes_unchanged c =
    let pre = c.requires in says-one _ _ _ _ _ _ _ _ c.shut_goals.ensures pre.says
