-- `write_reversed` meets its contract: each round writes the last cell that is left of the path.
use Rattle.branches.specs.WriteLaws.{reversing_none, reversing_next, reversing_done}
use Rattle.branches.proofs.write_reversed.Goals as goal

pub loop-i-init : goal.loop-i-init
loop-i-init c = reversing_none _ _

pub loop-i-preserved : goal.loop-i-preserved
loop-i-preserved c = reversing_next c.requires c.loop-i.invariant c.loop-i-test.true

pub returns : goal.returns
returns c = reversing_done c.requires c.loop-i.invariant c.loop-i-test.false
