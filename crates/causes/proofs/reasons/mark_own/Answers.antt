-- `mark_own` meets its contract. The loop's invariant: the branches left, marked on the marks of now, make what all branches make.
use native.Mathlib.Omega.{arith}
use mathlib.Core.Path.{refl, ◌∙◌}
use Rattle.causes.specs.CauseLaws.{own-none, own-within, own_in, own-next, own-all}
use Rattle.causes.proofs.reasons.mark_own.Goals as goal

pub loop-k-init : goal.loop-k-init
loop-k-init c = own-none c.requires.own_branches

pub offset_bounds-lengths-k : goal.offset_bounds-lengths-k
offset_bounds-lengths-k c = record { fits = omega (arith, c.loop-k-test.true, c.requires.own_branches.branched.few) }

pub bounds-lengths-k : goal.bounds-lengths-k
bounds-lengths-k c = omega (arith, c.loop-k-test.true, c.requires.own_branches.branched.few)

pub overflow_add-to : goal.overflow_add-to
overflow_add-to c = record { fits = omega (arith, own-within c.requires.own_branches c.loop-k.invariant c.loop-k-test.true _ refl) }

pub slice_bounds-branch_stair_clearances-end : goal.slice_bounds-branch_stair_clearances-end
slice_bounds-branch_stair_clearances-end c = own-within c.requires.own_branches c.loop-k.invariant c.loop-k-test.true _ refl

pub branch_stair_clearances-requires-clause-good : goal.branch_stair_clearances-requires-clause-good
branch_stair_clearances-requires-clause-good c = c.requires.good

pub branch_stair_clearances-requires-clause-all_cells : goal.branch_stair_clearances-requires-clause-all_cells
branch_stair_clearances-requires-clause-all_cells c = own_in c.requires.own_branches c.loop-k.invariant c.loop-k-test.true _ refl

pub branch_stair_clearances-requires-clause-marks_len : goal.branch_stair_clearances-requires-clause-marks_len
branch_stair_clearances-requires-clause-marks_len c = c.loop-k.invariant.marking.long ∙ c.requires.marks_len

pub loop-k-preserved : goal.loop-k-preserved
loop-k-preserved c = own-next c.requires.own_branches c.loop-k.invariant c.loop-k-test.true _ refl c.branch_stair_clearances.ensures

pub returns : goal.returns
returns c = own-all c.requires.own_branches c.loop-k.invariant c.loop-k-test.false
