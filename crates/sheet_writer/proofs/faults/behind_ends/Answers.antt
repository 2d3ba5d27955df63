-- `behind_ends` meets its contract: the records are few enough for the products and the sums.
use native.Mathlib.Nat.{mul-le-mul}
use native.Mathlib.Omega.{arith}
use Rattle.sheet_writer.proofs.faults.behind_ends.Goals as goal

pub overflow_mul-result : goal.overflow_mul-result
overflow_mul-result c = omega (arith, mul-le-mul {n₁ = c.args.sink} {m₁ = c.args.sinks} {n₂ = 16} {m₂ = 16} c.requires.2 c.requires.3)

pub overflow_add-result-3 : goal.overflow_add-result-3
overflow_add-result-3 c = omega (arith, mul-le-mul {n₁ = c.args.sink} {m₁ = c.args.sinks} {n₂ = 16} {m₂ = 16} c.requires.2 c.requires.3)
