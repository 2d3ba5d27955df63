-- `shaped` meets its contract: what the reader found is what `shape_holds` tests.
use Rattle.job_sheet.specs.Places.{shaped}
use Rattle.sheet_reader.proofs.shaped.Goals as goal

pub returns : goal.returns
unfolding shaped
returns c = let pre = c.requires in rw pre.0 (rw (pre.1.head-is, pre.1.parts.count-is, pre.1.parts.whole_is, pre.0) at c.shape_holds.ensures)
