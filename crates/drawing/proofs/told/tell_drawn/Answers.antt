-- `tell_drawn` meets its contract: a drawn route clears the values, a refusal leaves them.
use Rattle.drawing.specs.RouteToldLaws.{drawn_told_lem, drawn_untold}
use Rattle.drawing.proofs.told.tell_drawn.Goals as goal

pub returns-in-Ok : goal.returns-in-Ok
returns-in-Ok c =
    let h = drawn_told_lem c.args.values.now c.in-Ok.is c.requires c.clear.ensures in
    record { value = h.0; values_after = h.1 }

pub returns-in-Err : goal.returns-in-Err
returns-in-Err c =
    let h = drawn_untold c.args.values.now _ c.in-Err.is c.refusal_number.ensures in
    record { value = h.0; values_after = h.1 }
