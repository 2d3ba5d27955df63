-- `write_front` meets its contract: the front is copied over a cleared buffer.
use mathlib.Core.Path.{◌∙◌, ap}
use mathlib.Core.List.{◌++◌}
use lib.ListN.{length, take, drop}
use native.Mathlib.Omega.{arith}
use Rattle.basics.specs.Copies.{copied_none, front-next, front-all}
use Rattle.basics.specs.Zeros.{zeros-long}
use Rattle.exports.specs.ExportLaws.{front-written}
use Rattle.exports.proofs.search_values.write_front.Goals as goal

pub loop-i-init : goal.loop-i-init
loop-i-init c = copied_none

pub loop-i-preserved : goal.loop-i-preserved
loop-i-preserved c =
    let long = zeros-long c.clear.ensures in
    front-next _ _ _ (omega (arith, c.min-count.ensures)) (omega (arith, c.min-count.ensures, long)) c.loop-i.invariant c.loop-i-test.true

pub returns : goal.returns
returns c =
    let long = zeros-long c.clear.ensures in
    front-all _ _ _ (omega (arith, c.min-count.ensures)) (omega (arith, c.min-count.ensures, long)) c.loop-i.invariant c.loop-i-test.false
    ∙ ap (λ s. take c.min-count.result c.args.front.now ++ drop c.min-count.result s) c.clear.ensures
    ∙ front-written c.args.front.now (length c.args.values.now) c.min-count.result c.min-count.ensures
