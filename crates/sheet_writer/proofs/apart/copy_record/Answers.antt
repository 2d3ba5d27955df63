-- `copy_record` meets its contract: what a byte holds, sixteen bits hold.
use lib.ListN.{drop}
use Rattle.job_sheet.specs.RecordLaws.{bytes_drop}
use Rattle.sheet_writer.specs.ApartLaws.{block_numbers_are, position_numbers_are}
use native.Mathlib.Omega.{arith}
use Rattle.sheet_writer.proofs.apart.copy_record.Goals as goal

pub put_numbers-requires : goal.put_numbers-requires
put_numbers-requires c = rw (block_numbers_are c.args.long (drop c.args.place c.args.sheet.now) (bytes_drop c.args.place c.args.sheet.now (λ i. omega (arith, c.shared_slice_known-1.given i))) c.block_from-b.ensures c.short.ensures c.short-in-Blocks.ensures c.short-in-Blocks-2.ensures c.short-in-Blocks-3.ensures c.short-in-Blocks-4.ensures) (rw c.in-Blocks.is at c.requires.fits)

pub put_numbers-requires-in-Positions : goal.put_numbers-requires-in-Positions
put_numbers-requires-in-Positions c = rw (position_numbers_are c.args.long (drop c.args.place c.args.sheet.now) (bytes_drop c.args.place c.args.sheet.now (λ i. omega (arith, c.shared_slice_known-1.given i))) c.position_from-p.ensures c.short-in-Positions.ensures c.short-in-Positions-2.ensures c.short-in-Positions-3.ensures) (rw c.in-Positions.is at c.requires.fits)

pub returns-in-Blocks : goal.returns-in-Blocks
returns-in-Blocks c = rw c.in-Blocks.is (rw (block_numbers_are c.args.long (drop c.args.place c.args.sheet.now) (bytes_drop c.args.place c.args.sheet.now (λ i. omega (arith, c.shared_slice_known-1.given i))) c.block_from-b.ensures c.short.ensures c.short-in-Blocks.ensures c.short-in-Blocks-2.ensures c.short-in-Blocks-3.ensures c.short-in-Blocks-4.ensures) at c.put_numbers.ensures)

pub returns-in-Positions : goal.returns-in-Positions
returns-in-Positions c = rw c.in-Positions.is (rw (position_numbers_are c.args.long (drop c.args.place c.args.sheet.now) (bytes_drop c.args.place c.args.sheet.now (λ i. omega (arith, c.shared_slice_known-1.given i))) c.position_from-p.ensures c.short-in-Positions.ensures c.short-in-Positions-2.ensures c.short-in-Positions-3.ensures) at c.put_numbers-in-Positions.ensures)
