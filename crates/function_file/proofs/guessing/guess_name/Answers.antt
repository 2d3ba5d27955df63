-- `guess_name` meets its contract.
use Rattle.function_file.specs.Guessing.{guessed_name}
use Rattle.function_file.proofs.guessing.guess_name.Goals as goal

pub returns : goal.returns
unfolding guessed_name
returns c = rw (← c.byte_at.ensures.0, ← c.byte_at-2.ensures.0, ← c.byte_at-3.ensures.0, ← c.byte_at-4.ensures.0, ← c.byte_at-5.ensures.0, ← c.byte_at-6.ensures.0) c.name_by.ensures
