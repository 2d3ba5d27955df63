-- `shaped` meets its contract: it asks of the whole sheet what `shape_holds` tests.
use native.Mathlib.Omega.{arith}
use Rattle.job_sheet.specs.Places.{shaped}
use Rattle.job_sheet.proofs.places.shaped.Goals as goal

pub behind-end-requires : goal.behind-end-requires
behind-end-requires c = (c.requires.size-most, c.requires.sinks-near, omega (arith, c.requires.sinks-most))

pub returns : goal.returns
unfolding shaped
returns c = rw (c.byte.ensures, c.four_bytes.ensures, c.behind-end.ensures.is, c.requires.is) at c.shape_holds.ensures
