-- `config_list` meets its contract: a record of the config and, where limits are carried, one byte more.
use Rattle.sheet_reader.proofs.steps.config_list.Goals as goal

pub returns : goal.returns
returns c = rw (c.limit_size-size.ensures.0, c.version_in-version.ensures)
