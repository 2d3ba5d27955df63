-- `least_key` passes over the keys whose lists are empty; some entry waits, so it ends.
use native.Mathlib.Omega.{arith}
use Rattle.keyed_lists.specs.BeginLaws.{floor-reached, passed_over, reached-small, reached-least}
use Rattle.keyed_lists.proofs.least_key.Goals as goal

pub loop-key-init : goal.loop-key-init
loop-key-init c = floor-reached _ c.requires.keyed

pub overflow_add-key : goal.overflow_add-key
overflow_add-key c = omega (arith, reached-small _ c.requires.keyed _ c.requires.nonzero c.loop-key.invariant)

pub loop-key-smaller : goal.loop-key-smaller
loop-key-smaller c = omega (arith, reached-small _ c.requires.keyed _ c.requires.nonzero c.loop-key.invariant)

pub loop-key-preserved : goal.loop-key-preserved
loop-key-preserved c = passed_over _ c.requires.keyed _ c.loop-key.invariant c.loop-key-test.true

pub returns : goal.returns
returns c = reached-least _ c.requires.keyed _ c.loop-key.invariant c.loop-key-test.false
