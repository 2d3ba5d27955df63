-- `place_or_refuse` meets its contract: the ends, or what is wrong with one.
use Rattle.repeater_plan.specs.EntryLaws.{placed-good, placed-refused}
use Rattle.repeater_plan.proofs.entry.place_or_refuse.Goals as goal

pub place_front-requires : goal.place_front-requires
place_front-requires c = c.requires _ c.in-Ok.is

pub returns-in-Ok : goal.returns-in-Ok
returns-in-Ok c = placed-good _ _ _ _ c.in-Ok.is c.place_front.ensures

pub returns-in-Err : goal.returns-in-Err
returns-in-Err c = placed-refused _ _ _ _ c.in-Err.is c.number.ensures c.refuse.ensures
