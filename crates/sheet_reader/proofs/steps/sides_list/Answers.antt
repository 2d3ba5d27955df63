-- `sides_list` meets its contract: a record as long as a position.
use mathlib.Core.Path.{refl}
use native.Mathlib.Omega.{arith}
use Rattle.sheet_reader.proofs.steps.sides_list.Goals as goal

pub returns : goal.returns
returns c = record { is = rw (c.position_size.ensures.0, c.version_in-long.ensures); size-most = omega (arith, c.position_size.ensures.1); count-is = refl }
