-- `put_sink` meets its contract: its endpoint, then its tail limit.
use Rattle.putting.specs.PutLaws.{both, first_fits, then-fits}
use Rattle.sheet_writer.specs.TextLaws.{sink_pieces, fits_as, put_as}
use Rattle.sheet_writer.proofs.puts.put_sink.Goals as goal

pub put_endpoint-ended-requires : goal.put_endpoint-ended-requires
put_endpoint-ended-requires c = let a = c.args in first_fits _ (fits_as (sink_pieces a.version a.end) c.requires)

pub put_limit-requires : goal.put_limit-requires
put_limit-requires c = let a = c.args in then-fits c.put_endpoint-ended.ensures (fits_as (sink_pieces a.version a.end) c.requires)

pub returns : goal.returns
returns c = let a = c.args in put_as (sink_pieces a.version a.end) (both c.put_endpoint-ended.ensures c.put_limit.ensures)
