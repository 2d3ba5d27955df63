-- `mark_net` meets its contract: the source's terminal, then each round one branch.
use Rattle.std.proofs.Common.{refl, ◌∙◌, arith}
use Rattle.other_nets.specs.OtherLaws.{net-none, branch-ends, branch_in, net-next, net-all, net-marked}
use Rattle.other_nets.proofs.mark_net.Goals as goal

pub loop-length-init : goal.loop-length-init
loop-length-init c = net-none c.requires _

pub overflow_add-to : goal.overflow_add-to
overflow_add-to c = record { fits = omega (arith, branch-ends c.requires c.loop-length.invariant c.loop-length-test.true _ refl) }

pub slice_bounds-mark_branch-end : goal.slice_bounds-mark_branch-end
slice_bounds-mark_branch-end c = branch-ends c.requires c.loop-length.invariant c.loop-length-test.true _ refl

pub mark_branch-requires-clause-all_cells : goal.mark_branch-requires-clause-all_cells
mark_branch-requires-clause-all_cells c = branch_in c.requires c.loop-length.invariant c.loop-length-test.true _ refl

pub mark_branch-requires-clause-marks_len : goal.mark_branch-requires-clause-marks_len
mark_branch-requires-clause-marks_len c = c.loop-length.invariant.long ∙ c.mark_near.auto.marks ∙ c.requires.long

pub loop-length-preserved : goal.loop-length-preserved
loop-length-preserved c = net-next c.requires c.loop-length.invariant c.loop-length-test.true _ refl c.mark_branch.ensures

pub returns : goal.returns
returns c = net-marked c.requires c.mark_near.ensures (net-all c.requires c.loop-length.invariant c.loop-length-test.false)
