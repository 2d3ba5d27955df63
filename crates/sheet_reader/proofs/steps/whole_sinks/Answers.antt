-- `whole_sinks` meets its contract: its tests are the definition's.
use mathlib.Core.Path.{sym, ◌∙◌}
use native.Mathlib.Nat.{mul-le-mul}
use native.Mathlib.Omega.{arith}
use Rattle.sheet_reader.specs.ReaderLaws.{whole-some, whole-over, whole-short}
use Rattle.sheet_reader.proofs.steps.whole_sinks.Goals as goal

pub returns-then-part-gt-MAX_SINKS : goal.returns-then-part-gt-MAX_SINKS
returns-then-part-gt-MAX_SINKS c = c.no_part.ensures ∙ sym (whole-over _ _ c.if-part-gt-MAX_SINKS.true)

pub overflow_mul-part : goal.overflow_mul-part
overflow_mul-part c = omega (arith, mul-le-mul c.requires.1 c.if-part-gt-MAX_SINKS.false)

pub overflow_add-part : goal.overflow_add-part
overflow_add-part c = omega (arith, mul-le-mul c.requires.1 c.if-part-gt-MAX_SINKS.false, c.requires.0, c.well_formed)

pub returns-then-sheet-part : goal.returns-then-sheet-part
returns-then-sheet-part c = c.no_part-then-sheet-part.ensures ∙ sym (whole-short _ _ c.if-part-gt-MAX_SINKS.false c.if-sheet-part.true)

pub returns-else-sheet-part : goal.returns-else-sheet-part
returns-else-sheet-part c = sym (whole-some _ _ c.if-part-gt-MAX_SINKS.false c.if-sheet-part.false)
