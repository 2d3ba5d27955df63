-- `behind_list` meets its contract: the records are few enough for the product and the sums.
use mathlib.Core.Path.{refl}
use native.Mathlib.Nat.{mul-le-mul}
use native.Mathlib.Omega.{arith}
use Rattle.sheet_writer.proofs.faults.behind_list.Goals as goal

pub overflow_mul-result : goal.overflow_mul-result
overflow_mul-result c = omega (arith, mul-le-mul {n₁ = c.args.size} {m₁ = c.args.count} {n₂ = 16} {m₂ = 60000} c.requires.1 c.requires.2)

pub overflow_add-result-2 : goal.overflow_add-result-2
overflow_add-result-2 c = omega (arith, mul-le-mul {n₁ = c.args.size} {m₁ = c.args.count} {n₂ = 16} {m₂ = 60000} c.requires.1 c.requires.2)

pub returns : goal.returns
returns c = record { is = refl; near = omega (arith, mul-le-mul {n₁ = c.args.size} {m₁ = c.args.count} {n₂ = 16} {m₂ = 60000} c.requires.1 c.requires.2) }
