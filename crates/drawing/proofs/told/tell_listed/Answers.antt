-- `tell_listed` meets its contract: a list writes its values and zeros behind them, a refusal leaves them.
use Rattle.drawing.specs.ListToldLaws.{listed-told, listed-untold}
use Rattle.drawing.proofs.told.tell_listed.Goals as goal

pub returns-in-Ok : goal.returns-in-Ok
returns-in-Ok c =
    let h = listed-told c.args.values.now c.in-Ok.is c.write_two.ensures in
    record { value = h.0; values_after = h.1 }

pub returns-in-Err : goal.returns-in-Err
returns-in-Err c =
    let h = listed-untold c.args.values.now _ c.in-Err.is c.refusal_number.ensures in
    record { value = h.0; values_after = h.1 }
