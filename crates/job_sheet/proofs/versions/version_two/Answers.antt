-- `version_two` meets its contract: it writes out the definition.
use Rattle.job_sheet.proofs.versions.version_two.Goals as goal

pub returns : goal.returns
returns c = rw c.first_ranges.ensures
