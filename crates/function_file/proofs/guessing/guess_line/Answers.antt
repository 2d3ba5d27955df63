-- `guess_line` meets its contract: each place is behind the number before.
use Rattle.function_file.specs.GuessLaws.{guess_is}
use Rattle.function_file.proofs.guessing.guess_line.Goals as goal

pub returns : goal.returns
returns c = guess_is c.args.text.now c.args.at c.guess_size.ensures.0 c.guess_size-2.ensures.0 c.guess_size-3.ensures.0 c.guess_number.ensures c.guess_number-2.ensures c.guess_number-3.ensures c.guess_kind.ensures c.guess_facing.ensures
