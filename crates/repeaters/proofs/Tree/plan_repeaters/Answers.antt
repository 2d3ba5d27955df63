-- `Tree::plan_repeaters` meets its contract. The loop's invariant: the sinks left come to the same as all from the start.
use Rattle.std.proofs.Common.{refl, ◌∙◌}
use Rattle.repeaters.specs.SinkLaws.{terminal-inside, sown_none, sown_next, sown_all}
use Rattle.repeaters.proofs.Tree.plan_repeaters.Goals as goal

pub loop-tap-init : goal.loop-tap-init
loop-tap-init c = (refl, sown_none)

pub plan_sink-requires-clause-terminal_bound : goal.plan_sink-requires-clause-terminal_bound
plan_sink-requires-clause-terminal_bound c = terminal-inside c.requires.taps_inside _ c.loop-tap-test.true

pub loop-tap-preserved : goal.loop-tap-preserved
loop-tap-preserved c = (c.plan_sink.auto.line ∙ c.loop-tap.invariant.0, sown_next c.loop-tap.invariant.1 c.loop-tap-test.true _ refl c.plan_sink.auto.repeaters c.plan_sink.ensures)

pub returns : goal.returns
returns c = sown_all c.loop-tap.invariant.1 c.loop-tap-test.false
