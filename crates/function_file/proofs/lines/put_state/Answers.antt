-- `put_state` meets its contract.
use Rattle.function_file.specs.Words.{state_text}
use Rattle.function_file.proofs.lines.put_state.Goals as goal

pub returns : goal.returns
unfolding state_text
returns c = rw (← c.name_word.ensures.0, ← c.open_word.ensures.0, ← c.side_word.ensures.0, ← c.close_word.ensures.0) c.put_four.ensures
