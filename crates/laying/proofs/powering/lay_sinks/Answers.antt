-- `lay_sinks` meets its contract. The loop's invariant: the sinks left make of the room of now what all make of it at the start.
use Rattle.std.proofs.Common.{refl}
use Rattle.laying.specs.PassingLaws.{ends-inside, sunk_first, sunk_next, sunk_held, sunk_last}
use Rattle.laying.proofs.powering.lay_sinks.Goals as goal

pub loop-tap-init : goal.loop-tap-init
loop-tap-init c = sunk_first _ _ _ _

pub lay_sink-requires-clause-room_held : goal.lay_sink-requires-clause-room_held
lay_sink-requires-clause-room_held c = sunk_held c.loop-tap.invariant c.requires.room_held

pub lay_sink-requires-clause-terminal_bound : goal.lay_sink-requires-clause-terminal_bound
lay_sink-requires-clause-terminal_bound c = (ends-inside c.requires.taps_inside _ c.loop-tap-test.true).0

pub lay_sink-requires-clause-approach_bound : goal.lay_sink-requires-clause-approach_bound
lay_sink-requires-clause-approach_bound c = (ends-inside c.requires.taps_inside _ c.loop-tap-test.true).1

pub loop-tap-preserved : goal.loop-tap-preserved
loop-tap-preserved c = sunk_next c.loop-tap.invariant c.loop-tap-test.true _ refl c.lay_sink.auto.kinds c.lay_sink.auto.facings c.lay_sink.ensures

pub returns : goal.returns
returns c = sunk_last c.loop-tap.invariant c.loop-tap-test.false
