-- `size_of` is safe: the room of a sheet that is accepted is good.
use Rattle.basics.specs.Tests.{test-passes}
use Rattle.job_sheet.proofs.Theorems.{accepted-by, usable}
use Rattle.std.proofs.Common.{rules}
use Rattle.replay_sheets.proofs.replay.size_of.Goals as goal

pub volume-requires : goal.volume-requires
volume-requires c = (usable _ _ (accepted-by c.read_sheet-reading.ensures (test-passes c.is_good.ensures c.if-not-is_good.false-raw))).room-good
