-- `source_at` meets its contract: a record of so many bytes.
use mathlib.Core.Path.{refl}
use native.Mathlib.Omega.{arith}
use Rattle.job_sheet.proofs.places.source_at.Goals as goal

pub returns : goal.returns
returns c = record { is = rw c.endpoint_size.ensures.0; from_is = refl; size-most = omega (arith, c.endpoint_size.ensures.1); count-is = refl }
