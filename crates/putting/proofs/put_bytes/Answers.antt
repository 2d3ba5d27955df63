-- `put_bytes` meets its contract: each round puts one byte more.
use native.Mathlib.Omega.{arith}
use Rattle.basics.specs.Copies.{copied_none, copied_next}
use Rattle.putting.specs.PutLaws.{copied_put}
use Rattle.putting.proofs.put_bytes.Goals as goal

pub loop-i-init : goal.loop-i-init
loop-i-init c = copied_none

pub loop-i-preserved : goal.loop-i-preserved
loop-i-preserved c = copied_next _ _ _ _ (omega arith) c.requires.place c.loop-i.invariant c.loop-i-test.true

pub returns : goal.returns
returns c = copied_put c.requires c.loop-i.invariant c.loop-i-test.false
