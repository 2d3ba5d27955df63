-- `put_number` meets its contract.
use Rattle.function_file.specs.Words.{number_text}
use Rattle.function_file.proofs.lines.put_number.Goals as goal

pub returns : goal.returns
unfolding number_text
returns c = rw (← c.hundreds.ensures.0, ← c.tens.ensures.0, ← c.ones.ensures.0) c.put_four.ensures
