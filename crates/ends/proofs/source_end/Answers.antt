-- `source_end` meets its contract: it goes by the cases of the terminal.
use Rattle.ends.specs.Ends.{source_end}
use borrow.Author.Rules.{rules}
use Rattle.ends.proofs.source_end.Goals as goal

pub returns-in_err-terminal : goal.returns-in_err-terminal
unfolding source_end
returns-in_err-terminal c = rw (← c.terminal_for_endpoint.ensures, c.in_err-terminal.was) (search rules)

pub returns : goal.returns
unfolding source_end
returns c = rw (← c.terminal_for_endpoint.ensures, c.in_ok-terminal.was)
