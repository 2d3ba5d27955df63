-- `Path::may_reinforce` meets its contract: a place that fits has a cell before it and one behind it.
use Rattle.std.proofs.Common.{sym, ◌∙◌}
use Rattle.repeaters.specs.TailLaws.{fit-later, fit-more}
use Rattle.repeaters.proofs.Path.may_reinforce.Goals as goal

pub stands_alone-requires-clause-i_nonzero : goal.stands_alone-requires-clause-i_nonzero
stands_alone-requires-clause-i_nonzero c = fit-later _ _ _ _ _ (sym c.may_stand.ensures ∙ c.if-may_stand.true)

pub stands_alone-requires-clause-i_in_bounds : goal.stands_alone-requires-clause-i_in_bounds
stands_alone-requires-clause-i_in_bounds c = fit-more _ _ _ _ _ (sym c.may_stand.ensures ∙ c.if-may_stand.true)
