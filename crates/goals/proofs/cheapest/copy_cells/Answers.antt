-- `copy_cells` meets its contract: the law of the copying loop.
use Rattle.basics.specs.Copies.{copied_none, front-next, front-all}
use Rattle.goals.proofs.cheapest.copy_cells.Goals as goal

pub loop-i-init : goal.loop-i-init
loop-i-init c = copied_none

pub loop-i-preserved : goal.loop-i-preserved
loop-i-preserved c =
    let pre = c.requires in
    front-next _ _ _ pre.0 pre.1 c.loop-i.invariant c.loop-i-test.true

pub returns : goal.returns
returns c =
    let pre = c.requires in
    front-all _ _ _ pre.0 pre.1 c.loop-i.invariant c.loop-i-test.false
