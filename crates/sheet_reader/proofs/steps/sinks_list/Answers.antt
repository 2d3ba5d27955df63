-- `sinks_list` meets its contract: they stand as the sheet's version says.
use Rattle.sheet_reader.proofs.steps.sinks_list.Goals as goal

pub returns : goal.returns
returns c = rw c.version_in.ensures at c.sinks_at.ensures
