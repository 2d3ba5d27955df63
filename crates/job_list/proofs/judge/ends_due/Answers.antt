-- `ends_due` meets its contract: the number and the detail of what the ends are refused for.
use Rattle.std.proofs.Common.{sym, ◌∙◌}
use Rattle.job_list.specs.JudgeLaws.{due-good, due-refused}
use Rattle.job_list.proofs.judge.ends_due.Goals as goal

pub returns-in-Ok : goal.returns-in-Ok
returns-in-Ok c = due-good _ (sym c.ends_refused.ensures ∙ c.in-Ok.is)

pub returns-in-Err : goal.returns-in-Err
returns-in-Err c = due-refused _ (sym c.ends_refused.ensures ∙ c.in-Err.is) c.number.ensures c.detail.ensures
