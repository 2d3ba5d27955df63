-- `sheet_length` meets its contract: each list stands behind the one before it.
use native.Mathlib.Omega.{arith}
use Rattle.sheet_writer.specs.SizeLaws.{counted_length}
use Rattle.sheet_writer.proofs.faults.sheet_length.Goals as goal

pub behind_ends-requires : goal.behind_ends-requires
behind_ends-requires c = (omega (arith, c.behind_list-source.ensures.near, c.behind_list-reserved.ensures.near, c.behind_list-terminals.ensures.near, c.behind_list-clearances.ensures.near, c.behind_list-conductors.ensures.near, c.lists_place-lists.ensures.1), omega (arith, c.endpoint_size-endpoint.ensures.1), omega (arith, c.sink_size.ensures.1), c.requires.sinks)

pub returns : goal.returns
returns c =
    counted_length _ _ c.position_size-position.ensures.0 c.block_size-block.ensures.0 c.lists_place-lists.ensures.0 c.behind_list-conductors.ensures.is c.behind_list-clearances.ensures.is c.behind_list-terminals.ensures.is c.behind_list-reserved.ensures.is c.behind_list-source.ensures.is c.endpoint_size-endpoint.ensures.0 c.sink_size.ensures.0 c.behind_ends.ensures
