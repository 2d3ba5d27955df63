-- `guess_facing` meets its contract.
use Rattle.function_file.specs.Guessing.{guessed_facing}
use Rattle.function_file.proofs.guessing.guess_facing.Goals as goal

pub returns : goal.returns
unfolding guessed_facing
returns c = rw (← c.guess_name-name.ensures, ← c.side_place.ensures.0, ← c.byte_at-letter.ensures.0, ← c.facing_by.ensures.0) c.shown_facing.ensures.0
