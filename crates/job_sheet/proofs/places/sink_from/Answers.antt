-- `sink_from` meets its contract: its endpoint, and the limit behind it.
use Rattle.job_sheet.proofs.places.sink_from.Goals as goal

pub returns : goal.returns
returns c = rw (c.limit_from.ensures, c.endpoint_from.ensures, c.endpoint_size-endpoint.ensures.0)
