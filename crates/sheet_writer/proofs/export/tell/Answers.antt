-- `tell` meets its contract: a refusal writes nothing.
use mathlib.Core.Path.{refl}
use Rattle.sheet_writer.proofs.export.tell.Goals as goal

pub write_two-requires : goal.write_two-requires
write_two-requires c = rw c.in-Ok.is at c.requires

pub returns-in-Ok : goal.returns-in-Ok
returns-in-Ok c = rw c.in-Ok.is (record { value = refl; values_after = c.write_two.ensures })

pub returns-in-Err : goal.returns-in-Err
returns-in-Err c = rw c.in-Err.is (record { value = c.number.ensures; values_after = refl })
