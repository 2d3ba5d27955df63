-- `put_mark` meets its contract: it writes one byte, or none where the place is outside.
use mathlib.Core.Path.{refl, sym}
use Rattle.routing_resources.specs.MarkLaws.{with_set, with_none}
use Rattle.routing_resources.proofs.put_mark.Goals as goal

pub bounds-marks-cell : goal.bounds-marks-cell
bounds-marks-cell c = c.requires _ c.in-Some.is

pub returns-in-Some : goal.returns-in-Some
returns-in-Some c = rw c.in-Some.is (with_set _ _ _)

pub returns-in_default : goal.returns-in_default
returns-in_default c = rw c.in_default.is (sym (with_none _ _ _ (λ v h. refl)))
