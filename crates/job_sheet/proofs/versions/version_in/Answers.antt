-- `version_in` meets its contract: the version is that of the first byte.
use Rattle.job_sheet.proofs.versions.version_in.Goals as goal

pub returns : goal.returns
returns c = rw (c.version_of.ensures, c.byte.ensures)
