-- `put_record` meets its contract: it goes by the sort of the record.
use native.Mathlib.Omega.{arith}
use Rattle.sheet_writer.proofs.puts.put_record.Goals as goal

pub put_block-requires-clause-block_numbers_in_bounds : goal.put_block-requires-clause-block_numbers_in_bounds
put_block-requires-clause-block_numbers_in_bounds c = rw c.in-Blocks.is at c.requires.records_in_bounds

pub put_block-requires-clause-fits : goal.put_block-requires-clause-fits
put_block-requires-clause-fits c = rw c.in-Blocks.is at c.requires.fits

pub position_from-requires : goal.position_from-requires
position_from-requires c = omega (arith, rw c.in-Positions.is at c.requires.records_in_bounds)

pub put_position-requires : goal.put_position-requires
put_position-requires c = rw c.position_from.ensures (rw c.in-Positions.is at c.requires.fits)

pub returns-in-Blocks : goal.returns-in-Blocks
returns-in-Blocks c = rw c.in-Blocks.is c.put_block.ensures

pub returns-in-Positions : goal.returns-in-Positions
returns-in-Positions c = rw c.in-Positions.is (rw c.position_from.ensures at c.put_position.ensures)
