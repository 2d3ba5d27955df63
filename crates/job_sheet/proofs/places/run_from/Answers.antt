-- `run_from` meets its contract: the run limit stands where the version says.
use Rattle.job_sheet.proofs.places.run_from.Goals as goal

pub returns : goal.returns
returns c = rw (c.limit_from.ensures, c.run_place-place.ensures.0)
