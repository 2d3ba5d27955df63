-- `job_from` meets its contract: the parts stand where the layout says.
use native.Mathlib.Omega.{arith}
use Rattle.job_sheet.specs.LayoutLaws.{parts_in}
use Rattle.job_sheet.proofs.ReadLaws.{job-forth}
use Rattle.job_sheet.proofs.job_from.Goals as goal

pub endpoint_from-requires : goal.endpoint_from-requires
endpoint_from-requires c =
    omega (arith, (parts_in _ _ c.requires.1 _ c.requires.0).source, c.well_formed)

pub sinks_from-requires : goal.sinks_from-requires
sinks_from-requires c =
    let pre = c.requires in
    (rw pre.0 pre.1.few-sinks, (parts_in _ _ pre.1 _ pre.0).sinks)

pub returns : goal.returns
returns c =
    job-forth _ _ (λ i. omega (arith, c.shared_slice_known-1.given i)) c.requires.1 _ _ _ _ _ _ c.room_from.ensures c.config_from.ensures c.run_from.ensures c.requires.0 c.endpoint_from.ensures c.sinks_from.ensures
