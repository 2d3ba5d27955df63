-- `branch_stair_clearances` meets its contract: each round marks the clearance of one pair of the branch.
use mathlib.Core.Path.{◌≡◌}
use Prim.Native.Nat.{◌+◌, ◌-◌}
use native.Mathlib.Omega.{arith}
use Rattle.routing_resources.specs.MarkLaws.{marking-none, marking-next, marking-last}
use Rattle.routing_resources.specs.ResourceLaws.{clearance_in}
use Rattle.routing_resources.proofs.branch_stair_clearances.Goals as goal
use Rattle.routing_resources.proofs.branch_stair_clearances.Invariants.{one_more, all-cleared, ends_in}

pub loop-i-init : goal.loop-i-init
loop-i-init c = marking-none _ _ _

pub clearance-place-requires-clause-good : goal.clearance-place-requires-clause-good
clearance-place-requires-clause-good c =
    let ends = ends_in _ _ c.requires.all_cells (c.loop-i.i - 1) c.loop-i.i (omega arith) c.loop-i-test.true _ _ c.as_index.ensures.0 c.as_index-in-loop-i.ensures.0 in c.requires.good

pub clearance-place-requires-clause-a_bound : goal.clearance-place-requires-clause-a_bound
clearance-place-requires-clause-a_bound c =
    let ends = ends_in _ _ c.requires.all_cells (c.loop-i.i - 1) c.loop-i.i (omega arith) c.loop-i-test.true _ _ c.as_index.ensures.0 c.as_index-in-loop-i.ensures.0 in ends.0

pub clearance-place-requires-clause-b_bound : goal.clearance-place-requires-clause-b_bound
clearance-place-requires-clause-b_bound c =
    let ends = ends_in _ _ c.requires.all_cells (c.loop-i.i - 1) c.loop-i.i (omega arith) c.loop-i-test.true _ _ c.as_index.ensures.0 c.as_index-in-loop-i.ensures.0 in ends.1

pub put_mark-requires : goal.put_mark-requires
put_mark-requires c =
    let ends = ends_in _ _ c.requires.all_cells (c.loop-i.i - 1) c.loop-i.i (omega arith) c.loop-i-test.true _ _ c.as_index.ensures.0 c.as_index-in-loop-i.ensures.0 in
    λ v e. rw (c.loop-i.invariant.long, c.requires.marks_len) (clearance_in _ c.requires.good _ _ ends.0 ends.1 v (rw c.clearance-place.ensures at e))

pub loop-i-preserved : goal.loop-i-preserved
loop-i-preserved c =
    let more = one_more c.args.room c.args.branch.now (c.loop-i.i - 1) c.loop-i.i (omega arith) c.loop-i-test.true in
    let next : c.loop-i.i + 1 - 1 ≡ c.loop-i.i - 1 + 1 = omega arith in
    rw next (marking-next c.loop-i.invariant _ c.put_mark.ensures (rw (c.clearance-place.ensures, c.as_index.ensures.0, c.as_index-in-loop-i.ensures.0) more))

pub returns : goal.returns
returns c = marking-last c.loop-i.invariant (all-cleared _ _ (c.loop-i.i - 1) (omega (arith, c.loop-i-test.false)))
