-- `mark_branch` meets its contract: the conductors, then the clearances.
use mathlib.Core.Path.{◌∙◌}
use Rattle.other_nets.specs.OtherLaws.{branch-marked}
use Rattle.other_nets.proofs.mark_branch.Goals as goal

pub branch_stair_clearances-requires-clause-good : goal.branch_stair_clearances-requires-clause-good
branch_stair_clearances-requires-clause-good c = c.requires.good

pub branch_stair_clearances-requires-clause-all_cells : goal.branch_stair_clearances-requires-clause-all_cells
branch_stair_clearances-requires-clause-all_cells c = c.requires.all_cells

pub branch_stair_clearances-requires-clause-marks_len : goal.branch_stair_clearances-requires-clause-marks_len
branch_stair_clearances-requires-clause-marks_len c = c.mark_conductors.auto.marks ∙ c.requires.marks_len

pub returns : goal.returns
returns c = branch-marked _ _ _ c.mark_conductors.ensures c.branch_stair_clearances.ensures
