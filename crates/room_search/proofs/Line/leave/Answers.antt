-- `Line::leave` meets its contract: each form's taking takes the entry out that comes first.
use Rattle.std.proofs.Common.{arith}
use Rattle.room_search.specs.HeldLaws.{left_one, left-two}
use Rattle.room_search.proofs.Line.leave.Goals as goal

pub returns-in-One : goal.returns-in-One
returns-in-One c = left_one _ _ _ _ _ c.in-One.is c.take.ensures

pub returns-in-Two : goal.returns-in-Two
returns-in-Two c = left-two _ _ _ _ _ (omega (arith, c.take-in-Two.type_inv)) c.in-Two.is c.take-in-Two.ensures
