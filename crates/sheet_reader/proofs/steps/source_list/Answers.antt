-- `source_list` meets its contract: it stands as the sheet's version says.
use Rattle.sheet_reader.proofs.steps.source_list.Goals as goal

pub returns : goal.returns
returns c = rw c.version_in.ensures at c.source_at.ensures
