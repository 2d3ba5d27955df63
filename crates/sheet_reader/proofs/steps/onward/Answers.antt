-- `onward` meets its contract: either the bytes are there, or the place is off the sheet.
use native.Mathlib.Omega.{arith}
use Rattle.sheet_reader.specs.ReaderLaws.{onward-on, onward-off}
use mathlib.Core.Path.{sym}
use Rattle.sheet_reader.proofs.steps.onward.Goals as goal

pub returns-then-end-place : goal.returns-then-end-place
returns-then-end-place c = sym (onward-off _ _ _ (omega arith))

pub returns-then-end-place-2 : goal.returns-then-end-place-2
returns-then-end-place-2 c = sym (onward-off _ _ _ (omega arith))

pub returns-else-end-place-2 : goal.returns-else-end-place-2
returns-else-end-place-2 c = sym (onward-on _ _ _ (omega arith))
