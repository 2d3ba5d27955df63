-- `no_sink` meets its contract.
use Rattle.job_sheet.proofs.no_sink.Goals as goal

pub returns : goal.returns
returns c = λ i. record { end = c.no_endpoint.ensures i; tail = 0 }
