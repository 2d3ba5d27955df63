-- `put_sinks` meets its contract: the count, then the sinks.
use Rattle.putting.specs.PutLaws.{both, first_fits, then-fits}
use Rattle.sheet_writer.specs.Texts.{sinks_text}
use Rattle.sheet_writer.proofs.puts.put_sinks.Goals as goal

pub put_one-counted-requires : goal.put_one-counted-requires
unfolding sinks_text
put_one-counted-requires c = first_fits _ c.requires.fits

pub put_ends-requires-clause-count_le_max_sinks : goal.put_ends-requires-clause-count_le_max_sinks
unfolding sinks_text
put_ends-requires-clause-count_le_max_sinks c = c.requires.count_le_max_sinks

pub put_ends-requires-clause-fits : goal.put_ends-requires-clause-fits
unfolding sinks_text
put_ends-requires-clause-fits c = then-fits c.put_one-counted.ensures c.requires.fits

pub returns : goal.returns
unfolding sinks_text
returns c = both c.put_one-counted.ensures c.put_ends.ensures
