-- `Path::plan_path` meets its contract. The loop's invariant: the strides left from here come to the same as all from the source.
use Rattle.repeaters.specs.StrideLaws.{striding_first, striding_next, striding_all}
use Rattle.repeaters.proofs.Path.plan_path.Goals as goal

pub loop-s-init : goal.loop-s-init
loop-s-init c = rw c.at_reset-s.ensures striding_first

pub loop-s-preserved : goal.loop-s-preserved
loop-s-preserved c = striding_next c.loop-s.invariant c.loop-s-test.true c.stride-s.auto.repeaters c.stride-s.ensures

pub returns : goal.returns
returns c = striding_all c.loop-s.invariant c.loop-s-test.false
