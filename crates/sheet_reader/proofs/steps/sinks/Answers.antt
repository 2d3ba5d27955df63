-- `sinks` meets its contract: what `whole_sinks` lets through can be read.
use Rattle.sheet_reader.specs.ReaderLaws.{whole-few, whole-inside}
use Rattle.sheet_reader.proofs.steps.sinks.Goals as goal

pub sinks_from-requires : goal.sinks_from-requires
sinks_from-requires c = rw c.whole_sinks.ensures (whole-few _ _, whole-inside _ _)

pub returns : goal.returns
returns c = rw (c.sinks_from.ensures, c.whole_sinks.ensures, c.sinks_list.ensures.is, c.version_in-version.ensures)
