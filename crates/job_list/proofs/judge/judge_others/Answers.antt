-- `judge_others` meets its contract. The loop's invariant: what is left of the list is judged as all of it behind the first sheet.
use native.Mathlib.Omega.{arith}
use Rattle.job_list.specs.JudgeLaws.{told-by, judging_first, judging_end, end-within, end-behind, first-whole, ends_at, judging_refused, judging_next}
use Rattle.job_list.specs.Told.{told_list, list-told}
use mathlib.Core.Path.{sym, ap, ◌∙◌}
use Rattle.job_list.proofs.judge.judge_others.Goals as goal

pub loop-place-init : goal.loop-place-init
loop-place-init c = judging_first _ _ _ c.requires

pub slice_bounds-sheet_size-count : goal.slice_bounds-sheet_size-count
slice_bounds-sheet_size-count c = omega (arith, c.loop-place.invariant.within)

pub slice_bounds-sheet_size-start : goal.slice_bounds-sheet_size-start
slice_bounds-sheet_size-start c = omega (arith, c.loop-place.invariant.within)

pub slice_bounds-sheet_size-end : goal.slice_bounds-sheet_size-end
slice_bounds-sheet_size-end c = omega (arith, c.loop-place.invariant.within)

pub overflow_add-end : goal.overflow_add-end
overflow_add-end c = omega (arith, end-within _ _ c.loop-place.invariant c.loop-place-test.true (ends_at c.args.list.now c.loop-place.place c.loop-place.invariant.within c.sheet_size.ensures))

pub slice_bounds-judge_net-end : goal.slice_bounds-judge_net-end
slice_bounds-judge_net-end c = first-whole c.args.list.now c.requires

pub slice_bounds-judge_net-count : goal.slice_bounds-judge_net-count
slice_bounds-judge_net-count c = omega arith

pub slice_bounds-judge_net-start : goal.slice_bounds-judge_net-start
slice_bounds-judge_net-start c = omega arith

pub slice_bounds-judge_net-end-in-loop-place : goal.slice_bounds-judge_net-end-in-loop-place
slice_bounds-judge_net-end-in-loop-place c = end-within _ _ c.loop-place.invariant c.loop-place-test.true (ends_at c.args.list.now c.loop-place.place c.loop-place.invariant.within c.sheet_size.ensures)

pub returns-in-Err : goal.returns-in-Err
returns-in-Err c = list-told (judging_refused _ _ c.loop-place.invariant c.loop-place-test.true (ends_at c.args.list.now c.loop-place.place c.loop-place.invariant.within c.sheet_size.ensures) c.requires c.judge_net.ensures c.in-Err.is c.refused_at.ensures) (rw c.refused_at.ensures ((told-by _ (sym c.in-Err.is ∙ c.judge_net.ensures)).1))

pub overflow_add-net : goal.overflow_add-net
overflow_add-net c = omega (arith, c.loop-place.invariant.few (omega (arith, c.loop-place-test.true)), c.loop-place-test.true)

pub loop-place-smaller : goal.loop-place-smaller
loop-place-smaller c = omega (arith, c.loop-place-test.true, end-behind _ _ c.loop-place.invariant c.loop-place-test.true (ends_at c.args.list.now c.loop-place.place c.loop-place.invariant.within c.sheet_size.ensures))

pub loop-place-preserved : goal.loop-place-preserved
loop-place-preserved c = judging_next _ _ c.loop-place.invariant c.loop-place-test.true (ends_at c.args.list.now c.loop-place.place c.loop-place.invariant.within c.sheet_size.ensures) c.requires c.judge_net.ensures c.in_default.is

pub returns : goal.returns
returns c = ap told_list (judging_end _ _ c.loop-place.invariant c.loop-place-test.false)
