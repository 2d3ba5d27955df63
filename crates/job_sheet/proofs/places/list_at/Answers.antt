-- `list_at` meets its contract: a count of two bytes is below 65,536.
use mathlib.Core.Path.{refl}
use Rattle.job_sheet.specs.Places.{list_at}
use borrow.Author.Rules.{rules}
use Rattle.job_sheet.proofs.places.list_at.Goals as goal

pub returns : goal.returns
unfolding list_at
returns c = record { is = rw c.two_bytes.ensures; from_is = refl; size_is = refl; count_most = search rules }
