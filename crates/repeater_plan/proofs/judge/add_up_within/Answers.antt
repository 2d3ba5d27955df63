-- `add_up_within` meets its contract: what is left, and the lengths left, come to all of them.
use Rattle.repeater_plan.specs.JudgeLaws.{away-first, away-next, away-over, away-all}
use Rattle.repeater_plan.proofs.judge.add_up_within.Goals as goal

pub loop-length-init : goal.loop-length-init
loop-length-init c = away-first _ _

pub returns-then-left-length : goal.returns-then-left-length
returns-then-left-length c = away-over _ _ c.loop-length.invariant c.loop-length-test.true c.if-left-length.true

pub loop-length-preserved : goal.loop-length-preserved
loop-length-preserved c = away-next _ _ c.loop-length.invariant c.loop-length-test.true c.if-left-length.false

pub returns : goal.returns
returns c = away-all _ _ c.loop-length.invariant c.loop-length-test.false
