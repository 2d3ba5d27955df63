-- `put_endpoint` meets its contract, piece by piece.
use Rattle.putting.specs.PutLaws.{both, first_fits, then-fits}
use Rattle.sheet_writer.specs.TextLaws.{endpoint_pieces, fits_as, put_as}
use Rattle.sheet_writer.proofs.puts.put_endpoint.Goals as goal

pub put_position-placed-requires : goal.put_position-placed-requires
put_position-placed-requires c = let a = c.args in first_fits _ (fits_as (endpoint_pieces a.long a.end) c.requires)

pub put_codes-requires : goal.put_codes-requires
put_codes-requires c = let a = c.args in then-fits c.put_position-placed.ensures (fits_as (endpoint_pieces a.long a.end) c.requires)

pub returns : goal.returns
returns c = let a = c.args in put_as (endpoint_pieces a.long a.end) (both c.put_position-placed.ensures c.put_codes.ensures)
