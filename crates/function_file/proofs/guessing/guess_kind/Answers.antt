-- `guess_kind` meets its contract.
use Rattle.function_file.specs.Guessing.{guessed_kind}
use Rattle.function_file.proofs.guessing.guess_kind.Goals as goal

pub returns : goal.returns
unfolding guessed_kind
returns c = rw (← c.guess_name.ensures) c.kind_by.ensures
