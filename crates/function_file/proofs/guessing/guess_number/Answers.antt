-- `guess_number` meets its contract.
use Rattle.function_file.specs.Guessing.{guessed_number}
use Rattle.function_file.proofs.guessing.guess_number.Goals as goal

pub returns : goal.returns
unfolding guessed_number
returns c = rw (← c.byte_at.ensures.0, ← c.byte_at-2.ensures.0, ← c.byte_at-3.ensures.0) c.number_by.ensures
