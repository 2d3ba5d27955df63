-- `tap_of` meets its contract: it goes by the cases of the sink's end.
use Rattle.ends.specs.Ends.{tap_of}
use Rattle.ends.proofs.tap_of.Goals as goal

pub returns-in-Ok : goal.returns-in-Ok
unfolding tap_of
returns-in-Ok c = rw (← c.sink_end.ensures, c.in-Ok.is)

pub returns-in-Err : goal.returns-in-Err
unfolding tap_of
returns-in-Err c = rw (← c.sink_end.ensures, c.in-Err.is) c.no_tap.ensures
