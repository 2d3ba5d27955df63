-- `behind` meets its contract: sizes and counts are small, so nothing wraps.
use mathlib.Core.Path.{refl}
use native.Mathlib.Nat.{le_of_lt, mul-le-mul}
use native.Mathlib.Omega.{arith}
use Rattle.job_sheet.proofs.places.behind.Goals as goal

pub overflow_mul-result : goal.overflow_mul-result
overflow_mul-result c = record { fits = omega (arith, mul-le-mul c.requires.0 (le_of_lt c.requires.2)) }

pub overflow_add-result : goal.overflow_add-result
overflow_add-result c = record { fits = omega (arith, mul-le-mul c.requires.0 (le_of_lt c.requires.2), c.requires) }

pub returns : goal.returns
returns c = record { is = refl; near = omega (arith, mul-le-mul c.requires.0 (le_of_lt c.requires.2)) }
