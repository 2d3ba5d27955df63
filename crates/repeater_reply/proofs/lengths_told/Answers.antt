-- `lengths_told` meets its contract: what is gathered so far stands before zeros.
use Rattle.std.proofs.Common.{◌≡◌, ◌∙◌, ◌<◌, length, take, arith, get_or-take, length-take-le}
use Rattle.repeater_reply.specs.ReplyLaws.{lengths_none, lengths-next, lengths-all}
use Rattle.repeater_reply.proofs.lengths_told.Goals as goal

pub loop-k-init : goal.loop-k-init
loop-k-init c = lengths_none

pub loop-k-preserved : goal.loop-k-preserved
loop-k-preserved c =
    let long : length (take c.min-held.result c.args.numbers.now) ≡ c.min-held.result = length-take-le c.min-held.result c.args.numbers.now (omega (arith, c.min-held.ensures)) in
    let below : c.loop-k.k < c.min-held.result = omega (arith, long, c.loop-k-test.true) in
    lengths-next c.loop-k.invariant c.min-held.ensures below (c.as_index.ensures.0 ∙ get_or-take c.min-held.result c.args.numbers.now c.loop-k.k 0 below)

pub returns : goal.returns
returns c =
    let long : length (take c.min-held.result c.args.numbers.now) ≡ c.min-held.result = length-take-le c.min-held.result c.args.numbers.now (omega (arith, c.min-held.ensures)) in
    lengths-all c.loop-k.invariant c.min-held.ensures (omega (arith, long, c.loop-k-test.false))
