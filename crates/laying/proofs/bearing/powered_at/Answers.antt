-- `powered_at` meets its contract. The loop's invariant: the sinks left come to the same as all.
use Rattle.std.proofs.Common.{sym, ◌∙◌}
use Rattle.ends.specs.Ends.{no_tap}
use Rattle.laying.specs.Laying.{powered_at}
use Rattle.laying.specs.BearingLaws.{asked-first, asked_yes, asked_no, asked-none}
use Rattle.laying.proofs.bearing.powered_at.Goals as goal

pub loop-tap-init : goal.loop-tap-init
loop-tap-init c = asked-first _ _

pub returns-then-powers : goal.returns-then-powers
unfolding powered_at
returns-then-powers c = asked_yes _ _ c.loop-tap.invariant no_tap c.loop-tap-test.true (sym c.powers.ensures ∙ c.if-powers.true)

pub loop-tap-preserved : goal.loop-tap-preserved
loop-tap-preserved c = asked_no _ _ c.loop-tap.invariant no_tap c.loop-tap-test.true (sym c.powers.ensures ∙ c.if-powers.false)

pub returns : goal.returns
unfolding powered_at
returns c = asked-none _ _ c.loop-tap.invariant c.loop-tap-test.false
