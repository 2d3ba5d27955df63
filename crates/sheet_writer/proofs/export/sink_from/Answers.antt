-- `sink_from` meets its contract: an end, and its tail limit.
use Rattle.sheet_writer.proofs.export.sink_from.Goals as goal

pub returns : goal.returns
returns c = rw (c.wide.ensures, c.number.ensures, c.end_from.ensures)
