-- `JobParts::fill_sheet` meets its contract: what is put, and zeros behind it.
use Prim.Native.Nat.{◌-◌}
use Rattle.job_sheet.specs.Version.{sides_place}
use Rattle.sheet_writer.specs.JobParts.{parts_in}
use Rattle.sheet_writer.specs.Texts.{sheet_text}
use Rattle.sheet_writer.specs.PromiseLaws.{zeros-behind}
use native.Mathlib.Omega.{arith}
use Rattle.sheet_writer.proofs.JobParts.fill_sheet.Goals as goal

pub put_sheet-requires-clause-count_le_max_sinks : goal.put_sheet-requires-clause-count_le_max_sinks
put_sheet-requires-clause-count_le_max_sinks c = c.requires.count_le_max_sinks

pub put_sheet-requires-clause-fits : goal.put_sheet-requires-clause-fits
put_sheet-requires-clause-fits c = record { place = omega (arith, c.requires.filling.long, c.requires.filling.place) }

pub returns : goal.returns
returns c = zeros-behind c.args.bytes (sheet_text c.args.version (c.args.bytes - sides_place) (parts_in c.args.self.now)) c.args.out.now c.requires.filling.long c.requires.filling.place c.put_sheet.ensures c.clear.ensures
