-- `run` meets its contract: it reads in the sheet's version.
use Rattle.sheet_reader.proofs.steps.run.Goals as goal

pub returns : goal.returns
returns c = rw (c.limit_from.ensures, c.version_in-limits.ensures)
