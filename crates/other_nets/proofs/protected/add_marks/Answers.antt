-- `add_marks` meets its contract: each round adds one mark.
use Rattle.std.proofs.Common.{arith}
use Rattle.other_nets.specs.OtherLaws.{adding-one, adding-end}
use Rattle.other_nets.proofs.protected.add_marks.Goals as goal

pub bounds-marks-i : goal.bounds-marks-i
bounds-marks-i c = omega (arith, c.requires, c.loop-i-test.true, c.loop-i.invariant.long)

pub loop-i-preserved : goal.loop-i-preserved
loop-i-preserved c = adding-one c.args.more.now c.loop-i.invariant (omega (arith, c.requires, c.loop-i-test.true, c.loop-i.invariant.long)) c.with_mark.ensures

pub returns : goal.returns
returns c = adding-end c.args.more.now c.loop-i.invariant c.loop-i-test.false
