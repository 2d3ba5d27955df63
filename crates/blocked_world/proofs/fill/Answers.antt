-- `fill` meets its contract.
use Rattle.blocked_world.specs.SeenLaws.{filled_none, filled_next, filled-all}
use Rattle.blocked_world.proofs.fill.Goals as goal

pub loop-v-init : goal.loop-v-init
loop-v-init c = filled_none _ _ _ _ _ _ _ c.requires.classes_len

pub loop-v-preserved : goal.loop-v-preserved
loop-v-preserved c = filled_next _ _ _ _ _ _ c.loop-v.invariant (rw c.requires.world_fits.kinds-long at c.loop-v-test.true) _ c.renew.ensures

pub returns : goal.returns
returns c = filled-all _ _ _ _ _ _ c.loop-v.invariant (rw c.requires.world_fits.kinds-long at c.loop-v-test.false)
