-- `guess_size` meets its contract.
use Rattle.function_file.specs.Guessing.{guessed_size}
use Rattle.function_file.proofs.guessing.guess_size.Goals as goal

pub returns : goal.returns
unfolding guessed_size
returns c = (rw (← c.byte_at.ensures.0, ← c.byte_at-2.ensures.0, ← c.byte_at-3.ensures.0) c.size_by.ensures.0, c.size_by.ensures.1)
