-- `layout_from` meets its contract: it goes from part to part as the definition does.
use native.Mathlib.Omega.{arith}
use Rattle.job_sheet.specs.LayoutLaws.{laid_out}
use Rattle.job_sheet.proofs.places.layout_from.Goals as goal

pub behind-requires-5 : goal.behind-requires-5
behind-requires-5 c = omega (arith, c.list_at-reserved.ensures, c.behind-4.ensures, c.list_at-terminals.ensures, c.behind-3.ensures, c.list_at-clearances.ensures, c.behind-2.ensures, c.list_at-conductors.ensures, c.behind.ensures, c.list_at-blocks.ensures, c.lists_place.ensures, c.block_size-block.ensures, c.position_size-position.ensures)

pub behind-requires-6 : goal.behind-requires-6
behind-requires-6 c = omega (arith, c.source_at-source.ensures, c.behind-5.ensures, c.list_at-reserved.ensures, c.behind-4.ensures, c.list_at-terminals.ensures, c.behind-3.ensures, c.list_at-clearances.ensures, c.behind-2.ensures, c.list_at-conductors.ensures, c.behind.ensures, c.list_at-blocks.ensures, c.lists_place.ensures, c.block_size-block.ensures, c.position_size-position.ensures)

pub sinks_at-requires : goal.sinks_at-requires
sinks_at-requires c = omega (arith, c.behind-6.ensures, c.source_at-source.ensures, c.behind-5.ensures, c.list_at-reserved.ensures, c.behind-4.ensures, c.list_at-terminals.ensures, c.behind-3.ensures, c.list_at-clearances.ensures, c.behind-2.ensures, c.list_at-conductors.ensures, c.behind.ensures, c.list_at-blocks.ensures, c.lists_place.ensures, c.block_size-block.ensures, c.position_size-position.ensures)

pub returns : goal.returns
returns c = record {
  is = laid_out _ _ c.position_size-position.ensures.0 c.block_size-block.ensures.0 c.lists_place.ensures.0 c.list_at-blocks.ensures.is c.behind.ensures.is c.list_at-conductors.ensures.is c.behind-2.ensures.is c.list_at-clearances.ensures.is c.behind-3.ensures.is c.list_at-terminals.ensures.is c.behind-4.ensures.is c.list_at-reserved.ensures.is c.behind-5.ensures.is c.source_at-source.ensures.is c.behind-6.ensures.is c.sinks_at.ensures.is;
  sinks-near = omega (arith, c.sinks_at.ensures, c.behind-6.ensures, c.source_at-source.ensures, c.behind-5.ensures, c.list_at-reserved.ensures, c.behind-4.ensures, c.list_at-terminals.ensures, c.behind-3.ensures, c.list_at-clearances.ensures, c.behind-2.ensures, c.list_at-conductors.ensures, c.behind.ensures, c.list_at-blocks.ensures, c.lists_place.ensures, c.block_size-block.ensures, c.position_size-position.ensures);
  sinks-most = c.sinks_at.ensures.count_most;
  size-most = c.sinks_at.ensures.size-most;
}
