-- `put_line` meets its contract, piece by piece.
use Rattle.function_file.specs.Putting.{both}
use Rattle.function_file.specs.Text.{line_at}
use Rattle.function_file.proofs.lines.put_line.Goals as goal

pub returns : goal.returns
unfolding line_at
returns c = both c.put_word-begun.ensures (both c.put_place-placed.ensures (both c.put_word-named.ensures (both c.put_state-stated.ensures c.put_word.ensures)))
