-- `put_four` meets its contract, word by word.
use Rattle.function_file.specs.Putting.{both}
use Rattle.function_file.proofs.lines.put_four.Goals as goal

pub returns : goal.returns
returns c = both c.put_word-first.ensures (both c.put_word-second.ensures (both c.put_word-third.ensures c.put_word.ensures))
