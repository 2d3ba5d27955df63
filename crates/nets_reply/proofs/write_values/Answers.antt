-- `write_values` meets its contract: wiped, and the three copied to the front.
use mathlib.Core.Path.{◌∙◌}
use native.Mathlib.Omega.{arith}
use Rattle.basics.specs.Copies.{copied_none, front-next, front-all}
use Rattle.nets_reply.specs.ReplyLaws.{wiped-long, values-three, values-told}
use Rattle.nets_reply.proofs.write_values.Goals as goal

pub loop-i-init : goal.loop-i-init
loop-i-init c = copied_none

pub loop-i-preserved : goal.loop-i-preserved
loop-i-preserved c =
    let three = values-three c.args.answer c.values_of-front.ensures in
    let long = wiped-long c.number_told.result c.args.values.now c.wipe.ensures in
    let place = c.requires in
    front-next _ _ _ (omega (arith, three)) (omega (arith, long, place)) c.loop-i.invariant c.loop-i-test.true

pub returns : goal.returns
returns c =
    let three = values-three c.args.answer c.values_of-front.ensures in
    let long = wiped-long c.number_told.result c.args.values.now c.wipe.ensures in
    let place = c.requires in
    front-all _ _ _ (omega (arith, three)) (omega (arith, long, place)) c.loop-i.invariant c.loop-i-test.false
    ∙ values-told c.args.answer c.args.values.now c.number_told.ensures c.wipe.ensures c.values_of-front.ensures
