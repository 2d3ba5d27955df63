-- `Line::join` meets its contract: each form's push adds the entry to those that wait.
use Rattle.room_search.specs.HeldLaws.{joined-one, joined-two}
use Rattle.room_search.proofs.Line.join.Goals as goal

pub returns-in-One : goal.returns-in-One
returns-in-One c = joined-one _ _ _ _ _ _ _ c.requires.holdable c.in-One.is c.push.ensures

pub returns-in-Two : goal.returns-in-Two
returns-in-Two c = joined-two _ _ _ _ _ _ _ c.requires.holdable c.in-Two.is c.push-in-Two.ensures
