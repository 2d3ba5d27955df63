-- `byte` meets its contract: past the end a list gives 0.
use mathlib.Core.Path.{sym}
use lib.ListN.{get_or-eq_default}
use lib.Seq.{get_or-drop}
use Rattle.job_sheet.proofs.places.byte.Goals as goal

pub returns-then-at-sheet : goal.returns-then-at-sheet
returns-then-at-sheet c = rw get_or-drop

pub returns-else-at-sheet : goal.returns-else-at-sheet
returns-else-at-sheet c = rw get_or-drop (sym (get_or-eq_default c.args.sheet.now 0 c.if-at-sheet.false))
