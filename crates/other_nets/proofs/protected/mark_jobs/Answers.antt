-- `mark_jobs` meets its contract. The loop's invariant: those of the jobs left, with the marks of now, make all.
use native.Mathlib.Omega.{arith}
use Rattle.job_list.specs.JudgeLaws.{ends_at}
use Rattle.other_nets.specs.OtherLaws.{jobs_none, jobs_all, job-ready, job-end, job-some, jobs_next}
use Rattle.other_nets.proofs.protected.mark_jobs.Goals as goal

pub loop-place-init : goal.loop-place-init
loop-place-init c = jobs_none _ c.requires

pub slice_bounds-sheet_size-count : goal.slice_bounds-sheet_size-count
slice_bounds-sheet_size-count c = omega (arith, c.loop-place.invariant.within)

pub slice_bounds-sheet_size-start : goal.slice_bounds-sheet_size-start
slice_bounds-sheet_size-start c = omega (arith, c.loop-place.invariant.within)

pub slice_bounds-sheet_size-end : goal.slice_bounds-sheet_size-end
slice_bounds-sheet_size-end c = omega (arith, c.loop-place.invariant.within)

pub overflow_add-end : goal.overflow_add-end
overflow_add-end c = omega (arith, job-end _ c.requires c.loop-place.invariant c.loop-place-test.true (ends_at c.args.list.now c.loop-place.place c.loop-place.invariant.within c.sheet_size.ensures))

pub slice_bounds-mark_sheet-count : goal.slice_bounds-mark_sheet-count
slice_bounds-mark_sheet-count c = omega arith

pub slice_bounds-mark_sheet-start : goal.slice_bounds-mark_sheet-start
slice_bounds-mark_sheet-start c = omega arith

pub slice_bounds-mark_sheet-end : goal.slice_bounds-mark_sheet-end
slice_bounds-mark_sheet-end c = job-end _ c.requires c.loop-place.invariant c.loop-place-test.true (ends_at c.args.list.now c.loop-place.place c.loop-place.invariant.within c.sheet_size.ensures)

pub mark_sheet-requires : goal.mark_sheet-requires
mark_sheet-requires c = job-ready _ c.requires c.loop-place.invariant c.loop-place-test.true (ends_at c.args.list.now c.loop-place.place c.loop-place.invariant.within c.sheet_size.ensures)

pub overflow_add-k : goal.overflow_add-k
overflow_add-k c = omega (arith, c.loop-place.invariant.few, c.loop-place-test.true)

pub loop-place-smaller : goal.loop-place-smaller
loop-place-smaller c = omega (arith, c.loop-place-test.true, job-some _ c.requires c.loop-place.invariant c.loop-place-test.true (ends_at c.args.list.now c.loop-place.place c.loop-place.invariant.within c.sheet_size.ensures))

pub loop-place-preserved : goal.loop-place-preserved
loop-place-preserved c = jobs_next _ c.requires c.loop-place.invariant c.loop-place-test.true (ends_at c.args.list.now c.loop-place.place c.loop-place.invariant.within c.sheet_size.ensures) c.mark_sheet.ensures

pub returns : goal.returns
returns c = jobs_all _ c.requires c.loop-place.invariant c.loop-place-test.false
