-- `number` meets its contract: a list from a place on begins there.
use lib.Seq.{get_or-drop}
use Rattle.sheet_writer.proofs.listed.number.Goals as goal

pub returns : goal.returns
returns c = rw get_or-drop
