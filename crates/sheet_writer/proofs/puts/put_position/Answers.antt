-- `put_position` meets its contract, one coordinate after another.
use Rattle.putting.specs.PutLaws.{both, first_fits, then-fits}
use Rattle.sheet_writer.specs.TextLaws.{position_pieces, fits_as, put_as}
use Rattle.sheet_writer.proofs.puts.put_position.Goals as goal

pub put_coordinate-first-requires : goal.put_coordinate-first-requires
put_coordinate-first-requires c = let a = c.args in first_fits _ (fits_as (position_pieces a.long a.p) c.requires)

pub put_coordinate-second-requires : goal.put_coordinate-second-requires
put_coordinate-second-requires c = let a = c.args in first_fits _ (then-fits c.put_coordinate-first.ensures (fits_as (position_pieces a.long a.p) c.requires))

pub put_coordinate-requires : goal.put_coordinate-requires
put_coordinate-requires c = let a = c.args in then-fits c.put_coordinate-second.ensures (then-fits c.put_coordinate-first.ensures (fits_as (position_pieces a.long a.p) c.requires))

pub returns : goal.returns
returns c = let a = c.args in put_as (position_pieces a.long a.p) (both c.put_coordinate-first.ensures (both c.put_coordinate-second.ensures c.put_coordinate.ensures))
