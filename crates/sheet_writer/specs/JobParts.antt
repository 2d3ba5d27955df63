-- The parts of a job, as they are lent to the writer, as the parts that the rules speak of.
use Rattle.sheet_writer.specs.declared.JobParts.{JobParts}
use Rattle.sheet_writer.specs.Writer.{Parts, parts}

abbrev pub parts_in : JobParts → Parts
parts_in p =
    parts p.room p.config p.run p.lists.blocks.now p.lists.conductors.now p.lists.clearances.now p.lists.terminals.now p.lists.reserved.now p.source p.sinks
