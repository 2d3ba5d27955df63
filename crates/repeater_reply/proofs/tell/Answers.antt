-- `tell` meets its contract: it goes by the cases of the answer.
use mathlib.Core.Path.{refl}
use Rattle.repeater_reply.proofs.tell.Goals as goal

pub write_two-requires : goal.write_two-requires
write_two-requires c = (rw c.in-Ok.is at c.requires) refl

pub tell_refusal-requires : goal.tell_refusal-requires
tell_refusal-requires c = rw c.in-Err.is at c.requires

pub returns-in-Ok : goal.returns-in-Ok
returns-in-Ok c = rw c.in-Ok.is record { value = refl; values_after = c.write_two.ensures }

pub returns-in-Err : goal.returns-in-Err
returns-in-Err c = rw c.in-Err.is c.tell_refusal.ensures
