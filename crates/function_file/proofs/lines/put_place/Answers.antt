-- `put_place` meets its contract, number by number.
use Rattle.function_file.specs.Putting.{both}
use Rattle.function_file.specs.Text.{place_text}
use Rattle.function_file.proofs.lines.put_place.Goals as goal

pub returns : goal.returns
unfolding place_text
returns c = both c.put_number-first.ensures (both c.put_number-second.ensures c.put_number.ensures)
