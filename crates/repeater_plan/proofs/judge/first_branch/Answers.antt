-- `first_branch` meets its contract: the fault so far and the branches that are left come to that of all.
use Rattle.std.proofs.Common.{ap, ◌∙◌, sym, ◌∷◌, map, ◌+◌, arith}
use Rattle.job_sheet.specs.Sheet.{first_fault}
use Rattle.branches.specs.Branches.{cut_into}
use Rattle.repeater_plan.specs.Plan.{branch_fault}
use Rattle.repeater_plan.specs.JudgeLaws.{held_take, branches-first, branches-stop, branches-done, branch-ends, branches-next}
use Rattle.repeater_plan.proofs.judge.first_branch.Goals as goal

pub loop-length-init : goal.loop-length-init
loop-length-init c = branches-first _ _ _ _

pub returns-then-not-is_good : goal.returns-then-not-is_good
returns-then-not-is_good c = branches-stop _ _ _ _ c.loop-length.invariant (sym c.is_good.ensures ∙ c.if-not-is_good.true) ∙ ap (λ ns. first_fault (c.args.found ∷ map (branch_fault c.args.room) (cut_into ns c.args.branches.now))) (held_take _ c.args.lengths.each c.requires.each_len c.held-count.ensures.0)

pub overflow_sub-branches : goal.overflow_sub-branches
overflow_sub-branches c = omega (arith, c.loop-length.invariant.inside)

pub overflow_add-to : goal.overflow_add-to
overflow_add-to c = record { fits = omega (arith, branch-ends _ _ _ _ c.loop-length.invariant c.loop-length-test.true _ (ap (λ m. c.loop-length.from + m) c.min-held.ensures)) }

pub slice_bounds-branch_fault-end : goal.slice_bounds-branch_fault-end
slice_bounds-branch_fault-end c = branch-ends _ _ _ _ c.loop-length.invariant c.loop-length-test.true _ (ap (λ m. c.loop-length.from + m) c.min-held.ensures)

pub branch_fault-fault-requires : goal.branch_fault-fault-requires
branch_fault-fault-requires c = c.requires.good

pub loop-length-preserved : goal.loop-length-preserved
loop-length-preserved c = branches-next _ _ _ _ c.loop-length.invariant c.loop-length-test.true _ (ap (λ m. c.loop-length.from + m) c.min-held.ensures) (sym c.is_good.ensures ∙ c.if-not-is_good.false) _ c.branch_fault-fault.ensures

pub returns : goal.returns
returns c = branches-done _ _ _ _ c.loop-length.invariant c.loop-length-test.false ∙ ap (λ ns. first_fault (c.args.found ∷ map (branch_fault c.args.room) (cut_into ns c.args.branches.now))) (held_take _ c.args.lengths.each c.requires.each_len c.held-count.ensures.0)
