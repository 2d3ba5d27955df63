-- `realize_sink_endpoint` meets its contract: it goes by the cases of the terminal, as the definition does.
use mathlib.Core.Path.{sym, ◌∙◌}
use Rattle.port_realization.specs.Ports.{realized_of}
use Rattle.port_realization.specs.PortLaws.{terminal_in_lem}
use borrow.Author.Rules.{rules}
use Rattle.port_realization.proofs.realize_sink_endpoint.Goals as goal

pub with_approach-requires-clause-terminal_bound : goal.with_approach-requires-clause-terminal_bound
with_approach-requires-clause-terminal_bound c = terminal_in_lem _ _ c.requires.within _ _ _ (sym c.terminal_for_endpoint.ensures ∙ c.in_ok-terminal.was)

pub returns-in_err-terminal : goal.returns-in_err-terminal
unfolding realized_of
returns-in_err-terminal c = rw (← c.terminal_for_endpoint.ensures, c.in_err-terminal.was) (search rules)

pub returns : goal.returns
unfolding realized_of
returns c = rw (← c.terminal_for_endpoint.ensures, c.in_ok-terminal.was) c.with_approach.ensures
