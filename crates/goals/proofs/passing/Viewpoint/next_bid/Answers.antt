-- `next_bid` meets its contract: the loop's invariant is whose bid is the lowest of the cells below. The measure is how many cells are left.
use native.Mathlib.Omega.{arith}
use Rattle.goals.proofs.PassingLaws.{next-none, next-skip, next-over}
use Rattle.goals.proofs.passing.Viewpoint.next_bid.Goals as goal

pub returns-then-end-low : goal.returns-then-end-low
returns-then-end-low c = next-over _ _ _ _ _ _ c.if-end-low.true _

pub loop-goal-init : goal.loop-goal-init
loop-goal-init c = (omega arith, next-none _ _ _ _ _ _)

pub lower_bid-next-requires : goal.lower_bid-next-requires
lower_bid-next-requires c = omega (arith, c.requires, (c.next_marked.ensures.marked _ c.in-Some.is).1)

pub overflow_add-cell : goal.overflow_add-cell
overflow_add-cell c = record { fits = omega (arith, (c.next_marked.ensures.marked _ c.in-Some.is).1, c.requires, c.args.self.good.few) }

pub loop-goal-smaller : goal.loop-goal-smaller
loop-goal-smaller c = let here = c.next_marked.ensures.marked _ c.in-Some.is in omega (arith, here.0, here.1)

pub loop-goal-preserved : goal.loop-goal-preserved
loop-goal-preserved c =
    let marked = c.next_marked.ensures in
    let here = marked.marked _ c.in-Some.is in
    (omega (arith, here.1), c.lower_bid-next.ensures.lowers _ here.2 (next-skip c.loop-goal.invariant.1 _ here.0 (marked.first _ c.in-Some.is)))

pub returns : goal.returns
returns c =
    let inv = c.loop-goal.invariant in
    next-skip inv.1 _ (omega (arith, inv.0, c.requires)) (λ other l m. c.next_marked.ensures.none c.in_default.is other l (omega (arith, m, c.requires)))
