-- `due_facing` meets its contract: its tests are the definition's.
use native.Mathlib.Omega.{arith}
use Rattle.drawing.specs.ListingLaws.{due-early, due_no_step, due-turn, due-straight}
use Prim.Native.Nat.{◌+◌, ◌-◌}
use Rattle.drawing.proofs.repeating.due_facing.Goals as goal

pub returns-then-count-run : goal.returns-then-count-run
returns-then-count-run c = due-early _ _ _ _ _ c.if-count-run.true

pub facing-into-requires-clause-good : goal.facing-into-requires-clause-good
facing-into-requires-clause-good c =
    let i = c.args.i in c.requires.good

pub facing-into-requires-clause-a_bound : goal.facing-into-requires-clause-a_bound
facing-into-requires-clause-a_bound c =
    let i = c.args.i in rw c.as_index.ensures.0 (c.requires.all_cells.below (i - 1) (omega (arith, c.requires.i_in_bounds)))

pub facing-into-requires-clause-b_bound : goal.facing-into-requires-clause-b_bound
facing-into-requires-clause-b_bound c =
    let i = c.args.i in rw c.as_index-cell.ensures.0 (c.requires.all_cells.below i (omega (arith, c.requires.i_in_bounds)))

pub returns-then-into-eq-NO_FACING : goal.returns-then-into-eq-NO_FACING
returns-then-into-eq-NO_FACING c = due_no_step _ _ _ _ _ c.if-count-run.false (rw (c.as_index.ensures.0, c.as_index-cell.ensures.0) at c.facing-into.ensures) c.if-into-eq-NO_FACING.true

pub facing-out-requires-clause-good : goal.facing-out-requires-clause-good
facing-out-requires-clause-good c =
    let i = c.args.i in c.requires.good

pub facing-out-requires-clause-a_bound : goal.facing-out-requires-clause-a_bound
facing-out-requires-clause-a_bound c =
    let i = c.args.i in rw c.as_index-cell.ensures.0 (c.requires.all_cells.below i (omega (arith, c.requires.i_in_bounds)))

pub facing-out-requires-clause-b_bound : goal.facing-out-requires-clause-b_bound
facing-out-requires-clause-b_bound c =
    let i = c.args.i in rw c.as_index-2.ensures.0 (c.requires.all_cells.below (i + 1) c.requires.i_in_bounds)

pub returns-then-into-out : goal.returns-then-into-out
returns-then-into-out c = due-straight _ _ _ _ _ c.if-count-run.false (rw (c.as_index.ensures.0, c.as_index-cell.ensures.0) at c.facing-into.ensures) c.if-into-eq-NO_FACING.false (rw (c.as_index-cell.ensures.0, c.as_index-2.ensures.0) at c.facing-out.ensures) c.if-into-out.true

pub returns-else-into-out : goal.returns-else-into-out
returns-else-into-out c = due-turn _ _ _ _ _ c.if-count-run.false (rw (c.as_index.ensures.0, c.as_index-cell.ensures.0) at c.facing-into.ensures) c.if-into-eq-NO_FACING.false (rw (c.as_index-cell.ensures.0, c.as_index-2.ensures.0) at c.facing-out.ensures) c.if-into-out.false
