-- `block_list` meets its contract: the records are as long as the sheet's version says.
use Rattle.sheet_reader.proofs.steps.block_list.Goals as goal

pub returns : goal.returns
returns c = rw (c.block_size.ensures.0, c.version_in-long.ensures) at c.list_at.ensures
