-- `walk_list` meets its contract: the nets up to the stand are walked.
use Rattle.list_routing.specs.StepLaws.{walked-first, walked_all}
use native.Mathlib.Omega.{arith}
use Rattle.list_routing.proofs.walk_list.Goals as goal

pub loop-stand-init : goal.loop-stand-init
loop-stand-init c = walked-first c.requires

pub returns : goal.returns
returns c = walked_all c.loop-stand.invariant (omega (arith, c.loop-stand-test.false))
