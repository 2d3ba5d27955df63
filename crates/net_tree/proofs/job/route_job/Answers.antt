-- `route_job` meets its contract: set out, and refused or grown.
use Rattle.std.specs.Prelude.{refl}
use mathlib.Core.Path.{◌∙◌}
use Rattle.outset.specs.SetOutLaws.{set-told, told-refusal}
use Rattle.net_tree.specs.JobLaws.{asked, job-refused, growable, job-grown}
use Rattle.net_tree.proofs.job.route_job.Goals as goal

pub set_out-requires : goal.set_out-requires
set_out-requires c = asked c.requires

pub returns-in-Err : goal.returns-in-Err
returns-in-Err c =
    let T = c.set_out.ensures in
    let t = told-refusal T c.in-Err.is in
    job-refused c.requires _ T.is_set t.refused (rw (c.number.ensures, c.detail.ensures, t.number-is, t.detail-is) refl)

pub grow_job-requires : goal.grow_job-requires
grow_job-requires c = growable c.requires _ (set-told c.set_out.ensures c.in-Ok.is) refl

pub returns : goal.returns
returns c = job-grown c.requires _ (set-told c.set_out.ensures c.in-Ok.is) refl c.grow_job.ensures
