-- `config_from` meets its contract: the config stands where the version says.
use Rattle.job_sheet.proofs.places.config_from.Goals as goal

pub returns : goal.returns
returns c = rw (c.config_at.ensures, c.config_place.ensures.0)
