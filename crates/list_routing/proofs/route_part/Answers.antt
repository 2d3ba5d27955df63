-- `route_part` meets its contract: parts of the sheet, the branch buffer and the lengths are handed on.
use mathlib.Core.Path.{refl}
use Rattle.list_routing.proofs.route_part.Goals as goal

pub route_next-requires : goal.route_next-requires
route_next-requires c = c.requires.asked

pub returns : goal.returns
returns c = record { branches = _; lengths-left = _; branches-are = refl; lengths-are = refl; routed = c.route_next.ensures }
