-- `endpoint_from` meets its contract: each part is one of the definition's.
use Rattle.job_sheet.proofs.places.endpoint_from.Goals as goal

pub returns : goal.returns
returns c = rw (c.byte-2.ensures, c.byte.ensures, c.position_from.ensures, c.position_size-position.ensures.0)
