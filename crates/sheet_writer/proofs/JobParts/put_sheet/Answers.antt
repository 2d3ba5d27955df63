-- `JobParts::put_sheet` meets its contract, part by part.
use Rattle.putting.specs.PutLaws.{both, first_fits, then-fits}
use Rattle.sheet_writer.specs.Texts.{sheet_text}
use Rattle.sheet_writer.proofs.JobParts.put_sheet.Goals as goal

pub put_head-headed-requires : goal.put_head-headed-requires
unfolding sheet_text
put_head-headed-requires c = first_fits _ c.requires.fits

pub put_lists-listed-requires : goal.put_lists-listed-requires
unfolding sheet_text
put_lists-listed-requires c = first_fits _ (then-fits c.put_head-headed.ensures c.requires.fits)

pub put_endpoint-sourced-requires : goal.put_endpoint-sourced-requires
unfolding sheet_text
put_endpoint-sourced-requires c = first_fits _ (then-fits c.put_lists-listed.ensures (then-fits c.put_head-headed.ensures c.requires.fits))

pub put_sinks-requires-clause-count_le_max_sinks : goal.put_sinks-requires-clause-count_le_max_sinks
unfolding sheet_text
put_sinks-requires-clause-count_le_max_sinks c = c.requires.count_le_max_sinks

pub put_sinks-requires-clause-fits : goal.put_sinks-requires-clause-fits
unfolding sheet_text
put_sinks-requires-clause-fits c = then-fits c.put_endpoint-sourced.ensures (then-fits c.put_lists-listed.ensures (then-fits c.put_head-headed.ensures c.requires.fits))

pub returns : goal.returns
unfolding sheet_text
returns c = both c.put_head-headed.ensures (both c.put_lists-listed.ensures (both c.put_endpoint-sourced.ensures c.put_sinks.ensures))
