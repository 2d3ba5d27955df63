-- `least_of` meets its contract: from the last on, the least so far.
use Rattle.std.proofs.Common.{◌≡◌, ap, ◌∙◌, arith, get_or, drop, ◌+◌, ◌-◌}
use Rattle.several_nets.specs.Answers.{lesser, least_of}
use Rattle.several_nets.specs.FirstLaws.{min_lesser, least-last, least-next}
use Rattle.several_nets.proofs.least_of.Goals as goal

pub loop-i-init : goal.loop-i-init
loop-i-init c = (omega arith, least-last c.args.each 14 (omega (arith, c.well_formed)))

pub loop-i-preserved : goal.loop-i-preserved
loop-i-preserved c =
    let t = c.args.each in
    let j = c.loop-i.i - 1 in
    let e : c.loop-i.i ≡ j + 1 = omega arith in
    (omega arith, c.min-least.ensures ∙ min_lesser (get_or t j 0) c.loop-i.least ∙ ap (lesser (get_or t j 0)) (c.loop-i.invariant.1 ∙ ap (λ n. least_of (drop n t)) e) ∙ least-next t j (omega (arith, c.well_formed)))

pub returns : goal.returns
returns c = let z : c.loop-i.i ≡ 0 = omega arith in c.loop-i.invariant.1 ∙ ap (λ n. least_of (drop n c.args.each)) z
