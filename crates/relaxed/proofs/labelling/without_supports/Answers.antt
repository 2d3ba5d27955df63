-- `without_supports` meets its contract: no step is dearer than before.
use mathlib.Core.Path.{refl}
use native.Mathlib.Omega.{arith}
use Rattle.relaxed.specs.CheckLaws.{relaxed_good}
use Rattle.relaxed.proofs.labelling.without_supports.Goals as goal

pub returns : goal.returns
returns c = relaxed_good c.requires refl refl refl (omega arith)
