-- `insert_branch` meets its contract: the branch is written behind the cells in use, and the part from its place on is rotated.
use mathlib.Core.Path.{refl, sym, ◌∙◌}
use native.Mathlib.Omega.{arith}
use Rattle.branches.specs.Branches.{branch_of}
use Rattle.branches.specs.WriteLaws.{branch-long, inserted-is}
use Rattle.branches.proofs.insert_branch.Goals as goal

pub overflow_add-end : goal.overflow_add-end
overflow_add-end c =
    let args = c.args in
    let count = c.branch_length.ensures ∙ sym (branch-long args.tap args.path.now) in
    omega (arith, c.requires.path_in_bounds)

pub slice_bounds-rotate-end : goal.slice_bounds-rotate-end
slice_bounds-rotate-end c =
    let args = c.args in
    let count = c.branch_length.ensures ∙ sym (branch-long args.tap args.path.now) in
    omega (arith, c.requires.path_in_bounds, c.branches-1.given.1)

pub returns : goal.returns
returns c =
    let args = c.args in
    let written = c.write_branch in
    let count = c.branch_length in
    inserted-is args.branches.now (branch_of args.tap args.path.now) args.at args.used c.requires.at_le_used c.requires.path_in_bounds
    c.write_branch.new.out _ c.write_branch.ensures refl
    count.result (c.branch_length.ensures ∙ sym (branch-long args.tap args.path.now))
    c.rotate.new.cells c.rotate.ensures
