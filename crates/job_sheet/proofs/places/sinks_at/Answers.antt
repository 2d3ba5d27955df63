-- `sinks_at` meets its contract: a count of one byte is below 256.
use mathlib.Core.Path.{refl}
use native.Mathlib.Omega.{arith}
use Rattle.job_sheet.specs.Places.{sinks_at}
use borrow.Author.Rules.{rules}
use Rattle.job_sheet.proofs.places.sinks_at.Goals as goal

pub returns : goal.returns
unfolding sinks_at
returns c = record { is = rw (c.byte.ensures, c.sink_size.ensures.0); from_is = refl; size-most = omega (arith, c.sink_size.ensures.1); count_most = search rules }
