-- `add_branch` meets its contract: the branch is put in at its place, and read there: all but its last cell become joinable, its clearances blocked.
use Rattle.multinet.specs.AddingLaws.{branch_has, branch-there, but_last_there, branch_in, but_last_in_room, end-within, branch-added}
use Rattle.multinet.proofs.adding.add_branch.Goals as goal

pub overflow_sub-last : goal.overflow_sub-last
overflow_sub-last c = branch_has c.requires

pub mark_cells-requires : goal.mark_cells-requires
mark_cells-requires c = rw (but_last_there c.requires _ c.insert_branch.ensures) (but_last_in_room c.requires c.requires.joinable-long)

pub slice_bounds-branch_stair_clearances-end : goal.slice_bounds-branch_stair_clearances-end
slice_bounds-branch_stair_clearances-end c = end-within c.requires c.insert_branch.auto.branches

pub branch_stair_clearances-requires-clause-good : goal.branch_stair_clearances-requires-clause-good
branch_stair_clearances-requires-clause-good c = c.requires.good

pub branch_stair_clearances-requires-clause-all_cells : goal.branch_stair_clearances-requires-clause-all_cells
branch_stair_clearances-requires-clause-all_cells c = rw (branch-there c.requires _ c.insert_branch.ensures) (branch_in c.requires)

pub branch_stair_clearances-requires-clause-marks_len : goal.branch_stair_clearances-requires-clause-marks_len
branch_stair_clearances-requires-clause-marks_len c = c.requires.blocked-long

pub returns : goal.returns
returns c = branch-added c.requires c.insert_branch.ensures (but_last_there c.requires _ c.insert_branch.ensures) (branch-there c.requires _ c.insert_branch.ensures) c.mark_cells.ensures c.branch_stair_clearances.ensures
