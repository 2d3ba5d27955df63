-- `position_list` meets its contract: the records are as long as the sheet's version says.
use Rattle.sheet_reader.proofs.steps.position_list.Goals as goal

pub returns : goal.returns
returns c = rw (c.position_size.ensures.0, c.version_in-long.ensures) at c.list_at.ensures
