-- `place_branch` meets its contract: the branch does not fit, or is added at its place.
use mathlib.Core.Path.{sym, ◌∙◌}
use native.Mathlib.Omega.{arith}
use Rattle.branches.specs.WriteLaws.{branch-long}
use Rattle.multinet.specs.AddingLaws.{no_space_left, addable, branch-placed}
use Rattle.branches.specs.BranchLaws.{branch-short}
use Rattle.multinet.proofs.adding.place_branch.Goals as goal

pub overflow_add-used : goal.overflow_add-used
overflow_add-used c = omega (arith, c.requires.used-short, c.joined_length-used.ensures, c.requires.short, c.branch_length-len.ensures, branch-long c.args.tap c.args.path.now, branch-short c.args.tap c.args.path.now)

pub returns-then-branches-used : goal.returns-then-branches-used
returns-then-branches-used c = no_space_left c.joined_length-used.ensures (c.branch_length-len.ensures ∙ sym (branch-long c.args.tap c.args.path.now)) c.if-branches-used.true

pub add_branch-requires : goal.add_branch-requires
add_branch-requires c = addable c.requires c.joined_length-at.ensures c.joined_length-used.ensures (c.branch_length-len.ensures ∙ sym (branch-long c.args.tap c.args.path.now)) c.if-branches-used.false

pub returns : goal.returns
returns c = branch-placed c.requires c.joined_length-at.ensures c.joined_length-used.ensures (c.branch_length-len.ensures ∙ sym (branch-long c.args.tap c.args.path.now)) c.if-branches-used.false c.add_branch.ensures
