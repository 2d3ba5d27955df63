-- `finish_tree` meets its contract: what the branches occupy, and the repeaters.
use mathlib.Core.Path.{sym}
use lib.Seq.{length-take-le}
use Rattle.multinet.specs.FinishingLaws.{source-marked, used-fits, cells-occupied, placeable, finished}
use Rattle.multinet.proofs.finishing.finish_tree.Goals as goal

pub mark-requires : goal.mark-requires
mark-requires c = source-marked c.requires

pub slice_bounds-mark_cells-end : goal.slice_bounds-mark_cells-end
slice_bounds-mark_cells-end c = sym (length-take-le _ _ (used-fits c.requires c.joined_length-used.ensures))

pub mark_cells-requires : goal.mark_cells-requires
mark_cells-requires c = cells-occupied c.requires c.joined_length-used.ensures c.mark.auto.marks

pub place_repeaters-requires : goal.place_repeaters-requires
place_repeaters-requires c = placeable c.requires

pub returns : goal.returns
returns c = finished c.requires c.joined_length-used.ensures c.mark.ensures c.mark_cells.ensures c.place_repeaters.ensures
