-- `totals_of` meets its contract: what is left of the path and what was counted make the whole.
use mathlib.Core.Path.{◌≡◌}
use Prim.Native.Nat.{ℕ, ◌+◌, ◌-◌, ◌*◌, ◌≤◌}
use native.Mathlib.Omega.{arith}
use lib.ListN.{length, get_or}
use Rattle.routing.specs.Totals.{step_of, laid_at}
use Rattle.routing.specs.TotalLaws.{laid-low, counting_next, counted-steps, counted-laid, steps-fit, laid-fit, supports-fit}
use Rattle.routing.proofs.counts.totals_of.Goals as goal
use Rattle.routing.proofs.counts.totals_of.Goals.{After-laid_beneath-laid, After-step_between-steps}

-- the cell before is the one at a place whose next is here
back : {i : ℕ} → 1 ≤ i → i - 1 + 1 ≡ i
back h = omega arith

-- the step to here, and the support beneath the cell here
step-told : (c : After-step_between-steps) → c.step_between-steps.result ≡ step_of c.args.room c.args.config (get_or c.args.path.now (c.loop-i.i - 1) 0) (get_or c.args.path.now (c.loop-i.i - 1 + 1) 0)
step-told c = rw (back c.loop-i.auto.i) (rw (c.as_index-from.ensures.0, c.as_index-to.ensures.0) at c.step_between-steps.ensures)

laid-told : (c : After-laid_beneath-laid) → c.laid_beneath-laid.result ≡ laid_at c.args.room c.args.kinds.now (get_or c.args.path.now (c.loop-i.i - 1 + 1) 0)
laid-told c = rw (back c.loop-i.auto.i) (rw c.as_index-to.ensures.0 at c.laid_beneath-laid.ensures)

pub overflow_add-steps : goal.overflow_add-steps
overflow_add-steps c =
    let a = c.args in
    let p = c.requires in
    let I = c.loop-i.invariant (c.loop-i.i - 1) (back c.loop-i.auto.i) in
    record { fits = omega (arith, steps-fit a.room a.config a.kinds.now a.path.now I p (rw (back c.loop-i.auto.i) c.loop-i-test.true) _ (step-told (goal.at.overflow_add-steps c).After-step_between-steps)) }

pub overflow_add-laid : goal.overflow_add-laid
overflow_add-laid c =
    let a = c.args in
    let p = c.requires in
    let I = c.loop-i.invariant (c.loop-i.i - 1) (back c.loop-i.auto.i) in
    record { fits = omega (arith, laid-fit a.room a.config a.kinds.now a.path.now I p, laid-told (goal.at.overflow_add-laid c).After-laid_beneath-laid, laid-low a.room a.kinds.now (get_or a.path.now (c.loop-i.i - 1 + 1) 0)) }

pub loop-i-preserved : goal.loop-i-preserved
loop-i-preserved c =
    let a = c.args in
    let I = c.loop-i.invariant (c.loop-i.i - 1) (back c.loop-i.auto.i) in
    let next = counting_next a.room a.config a.kinds.now a.path.now I (rw (back c.loop-i.auto.i) c.loop-i-test.true) (step-told (goal.at.loop-i-preserved c).After-step_between-steps) (laid-told (goal.at.loop-i-preserved c).After-laid_beneath-laid) in
    λ k e. let q : k ≡ c.loop-i.i - 1 + 1 = omega (arith, c.loop-i.auto.i, e) in rw q next

pub overflow_cast-result : goal.overflow_cast-result
overflow_cast-result c = let a = c.args in let p = c.requires in record { fits = omega (arith, laid-fit a.room a.config a.kinds.now a.path.now (c.loop-i.invariant (c.loop-i.i - 1) (back c.loop-i.auto.i)) p) }

pub overflow_mul-result : goal.overflow_mul-result
overflow_mul-result c = let a = c.args in let p = c.requires in record { fits = omega (arith, supports-fit a.room a.config a.kinds.now a.path.now (c.loop-i.invariant (c.loop-i.i - 1) (back c.loop-i.auto.i)) p) }

pub returns : goal.returns
returns c =
    let a = c.args in
    let I = c.loop-i.invariant (c.loop-i.i - 1) (back c.loop-i.auto.i) in
    let end : length a.path.now ≤ c.loop-i.i - 1 + 1 = rw (back c.loop-i.auto.i) c.loop-i-test.false in
    let steps = counted-steps a.room a.config a.kinds.now a.path.now I end in
    let laid = counted-laid a.room a.config a.kinds.now a.path.now I end in
    λ i. record { steps = record { 0 = steps i }; supports = record { 0 = laid i * a.config.support.0 }; laid = laid i }
