-- `endpoint` meets its contract: it reads in the sheet's version.
use Rattle.sheet_reader.proofs.steps.endpoint.Goals as goal

pub returns : goal.returns
returns c = rw (c.endpoint_from.ensures, c.version_in.ensures)
