-- `lay_sink` meets its contract: a Wire sink is left as it is.
use borrow.Author.Tests.{not-true, not-false}
use Rattle.laying.specs.PlacingLaws.{sink-wire, sink-power}
use Rattle.laying.proofs.powering.lay_sink.Goals as goal

pub returns-then-not-tap : goal.returns-then-not-tap
returns-then-not-tap c = sink-power _ _ _ (not-true c.args.tap.wire c.if-not-tap.true) c.facing-towards.ensures c.place.ensures

pub returns-else-not-tap : goal.returns-else-not-tap
returns-else-not-tap c = sink-wire _ _ _ (not-false c.args.tap.wire c.if-not-tap.false)
