-- `version_three` meets its contract: it writes out the definition.
use Rattle.job_sheet.proofs.versions.version_three.Goals as goal

pub returns : goal.returns
returns c = rw c.hall_ranges.ensures
