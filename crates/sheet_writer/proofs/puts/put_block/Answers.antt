-- `put_block` meets its contract, piece by piece.
use lib.ListN.{drop}
use Rattle.putting.specs.PutLaws.{both, first_fits, then-fits}
use Rattle.sheet_writer.specs.Writer.{block_from}
use Rattle.sheet_writer.specs.TextLaws.{block_pieces, fits_as, put_as}
use Rattle.sheet_writer.proofs.puts.put_block.Goals as goal

pub put_two-noded-requires : goal.put_two-noded-requires
put_two-noded-requires c = let b = block_from (drop c.args.place c.args.numbers.now) in rw (c.wide-node.ensures, c.number.ensures) (first_fits _ (fits_as (block_pieces c.args.long b) c.requires.fits))

pub put_position-placed-requires : goal.put_position-placed-requires
put_position-placed-requires c = let b = block_from (drop c.args.place c.args.numbers.now) in rw c.position_from-p.ensures (first_fits _ (then-fits (rw (c.wide-node.ensures, c.number.ensures) at c.put_two-noded.ensures) (fits_as (block_pieces c.args.long b) c.requires.fits)))

pub put_codes-requires : goal.put_codes-requires
put_codes-requires c = let b = block_from (drop c.args.place c.args.numbers.now) in rw (c.wide-kind.ensures, c.number-2.ensures, c.wide-facing.ensures, c.number-3.ensures) (then-fits (rw c.position_from-p.ensures at c.put_position-placed.ensures) (then-fits (rw (c.wide-node.ensures, c.number.ensures) at c.put_two-noded.ensures) (fits_as (block_pieces c.args.long b) c.requires.fits)))

pub returns : goal.returns
returns c = let b = block_from (drop c.args.place c.args.numbers.now) in put_as (block_pieces c.args.long b) (both (rw (c.wide-node.ensures, c.number.ensures) at c.put_two-noded.ensures) (both (rw c.position_from-p.ensures at c.put_position-placed.ensures) (rw (c.wide-kind.ensures, c.number-2.ensures, c.wide-facing.ensures, c.number-3.ensures) at c.put_codes.ensures)))
