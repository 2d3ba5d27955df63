-- `refusal` meets its contract: it writes out the definition.
use Rattle.job_sheet.specs.Sheet.{no_job}
use Rattle.job_sheet.proofs.refusal.Goals as goal

pub returns : goal.returns
unfolding no_job
returns c = rw (c.no_sink.ensures, c.no_endpoint.ensures, c.no_part-none.ensures)
