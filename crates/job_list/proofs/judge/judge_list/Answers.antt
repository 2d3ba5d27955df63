-- `judge_list` meets its contract: net 0, then the others.
use Rattle.job_list.specs.JudgeLaws.{told-by, first-whole, first-refused, first-passed}
use Rattle.job_list.specs.Told.{told_list, list-told}
use mathlib.Core.Path.{refl, sym, ap, ◌∙◌}
use Rattle.job_list.proofs.judge.judge_list.Goals as goal

pub slice_bounds-judge_net-end : goal.slice_bounds-judge_net-end
slice_bounds-judge_net-end c = first-whole c.args.list.now c.sheet_size-first.ensures

pub slice_bounds-judge_net-end-2 : goal.slice_bounds-judge_net-end-2
slice_bounds-judge_net-end-2 c = first-whole c.args.list.now c.sheet_size-first.ensures

pub returns-in-Err : goal.returns-in-Err
returns-in-Err c = list-told (first-refused _ _ c.sheet_size-first.ensures c.judge_net.ensures c.in-Err.is c.refused_at.ensures) (rw c.refused_at.ensures ((told-by _ (sym c.in-Err.is ∙ c.judge_net.ensures)).1))

pub returns : goal.returns
returns c = c.judge_others.ensures ∙ ap told_list (first-passed _ _ c.sheet_size-first.ensures c.judge_net.ensures c.in_default.is refl)
