-- `record_fault` meets its contract: a block with its codes in a byte each is judged as its numbers are.
use mathlib.Core.Path.{ap, ◌∙◌}
use Rattle.job_sheet.specs.Sheet.{block_fault, position_fault}
use Rattle.sheet_writer.specs.Narrow.{narrow_fault}
use native.Mathlib.Omega.{arith}
use Rattle.sheet_writer.proofs.faults.record_fault.Goals as goal

pub block_from-requires : goal.block_from-requires
block_from-requires c = rw c.in-Blocks.is at c.requires

pub position_from-requires : goal.position_from-requires
position_from-requires c = omega (arith, rw c.in-Positions.is at c.requires)

pub returns-in-Blocks : goal.returns-in-Blocks
returns-in-Blocks c = rw c.in-Blocks.is (c.block_fault.ensures ∙ ap (block_fault c.args.room) c.block_from.ensures ∙ narrow_fault _ _)

pub returns-in-Positions : goal.returns-in-Positions
returns-in-Positions c = rw c.in-Positions.is (c.position_fault.ensures ∙ ap (position_fault c.args.room) c.position_from.ensures)
