-- `block_outset` meets its contract: list by list, then the net's own cells are taken out.
use mathlib.Core.Path.{◌∙◌}
use Rattle.blocks.proofs.BlockLaws.{own-list}
use Rattle.outset.specs.OutsetLaws.{sized-still, outset-marked}
use Rattle.outset.proofs.block_outset.Goals as goal

pub cell_source_keepout-requires-clause-sized : goal.cell_source_keepout-requires-clause-sized
cell_source_keepout-requires-clause-sized c =
    let start = c.requires in sized-still start.sized (c.mark_positions-3.auto.marks ∙ c.mark_positions-2.auto.marks ∙ c.mark_positions.auto.marks ∙ c.mark_conductors.auto.marks)

pub cell_source_keepout-requires-clause-block_list : goal.cell_source_keepout-requires-clause-block_list
cell_source_keepout-requires-clause-block_list c =
    let start = c.requires in own-list start.usable.blocks

pub take_out_ends-requires-clause-good : goal.take_out_ends-requires-clause-good
take_out_ends-requires-clause-good c =
    let start = c.requires in start.sized.good

pub take_out_ends-requires-clause-net_inside : goal.take_out_ends-requires-clause-net_inside
take_out_ends-requires-clause-net_inside c =
    let start = c.requires in start.net

pub take_out_ends-requires-clause-marks_len : goal.take_out_ends-requires-clause-marks_len
take_out_ends-requires-clause-marks_len c =
    let start = c.requires in c.cell_source_keepout.auto.marks ∙ c.mark_positions-3.auto.marks ∙ c.mark_positions-2.auto.marks ∙ c.mark_positions.auto.marks ∙ c.mark_conductors.auto.marks ∙ start.sized.long

pub returns : goal.returns
returns c = outset-marked c.requires c.mark_conductors.ensures c.mark_positions.ensures c.mark_positions-2.ensures c.mark_positions-3.ensures c.cell_source_keepout.ensures c.take_out_ends.ensures
