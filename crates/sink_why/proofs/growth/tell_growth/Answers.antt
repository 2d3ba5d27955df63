-- `tell_growth` meets its contract: grown again, and told of the sink that has the turn.
use mathlib.Core.Path.{◌∙◌}
use native.Mathlib.Omega.{arith}
use Rattle.sink_why.specs.GrowthAgainLaws.{sink-small, reason-asked, reasoned}
use Rattle.sink_why.proofs.growth.tell_growth.Goals as goal

pub regrow-stopping-requires : goal.regrow-stopping-requires
regrow-stopping-requires c = c.requires.regrowable

pub offset_bounds-taps-sink : goal.offset_bounds-taps-sink
offset_bounds-taps-sink c = record { fits = omega (arith, sink-small c.requires.regrowable.routable.accepted c.regrow-stopping.ensures.regrown) }

pub bounds-taps-sink : goal.bounds-taps-sink
bounds-taps-sink c = sink-small c.requires.regrowable.routable.accepted c.regrow-stopping.ensures.regrown

pub tell_reason-verdict-requires : goal.tell_reason-verdict-requires
tell_reason-verdict-requires c = reason-asked c.requires.regrowable.routable.accepted c.regrow-stopping.ensures.regrown c.requires.sink_asks (c.regrow-stopping.ensures.same_lengths.classes ∙ c.requires.regrowable.routable.classes-long) (c.regrow-stopping.ensures.same_lengths.known ∙ c.requires.regrowable.routable.known-long) (c.regrow-stopping.ensures.same_lengths.path ∙ c.requires.regrowable.routable.path-long)

pub overflow_add-place : goal.overflow_add-place
overflow_add-place c = record { fits = omega (arith, sink-small c.requires.regrowable.routable.accepted c.regrow-stopping.ensures.regrown) }

pub returns : goal.returns
returns c = reasoned c.requires.regrowable.routable.accepted c.regrow-stopping.ensures.regrown c.requires.sink_asks c.tell_reason-verdict.ensures.reason_told
