-- `realize_ends` meets its contract: the ends part by part, and what is wrong with one.
use Rattle.std.proofs.Common.{ap, ◌∙◌}
use Rattle.ends.specs.Ends.{terminal_in}
use Rattle.ends.specs.EndLaws.{ends_is, realized-good, realized-fault}
use Rattle.ends.proofs.realize_ends.Goals as goal

pub returns-in-Some : goal.returns-in-Some
returns-in-Some c = realized-fault _ _ _ c.fault_of.ensures c.in-Some.is (ends_is _ _ _ (c.terminal_in.ensures ∙ ap terminal_in c.source_end.ensures) c.taps_of.ensures)

pub returns-in-None : goal.returns-in-None
returns-in-None c = realized-good _ _ _ c.fault_of.ensures c.in-None.is (ends_is _ _ _ (c.terminal_in.ensures ∙ ap terminal_in c.source_end.ensures) c.taps_of.ensures)
