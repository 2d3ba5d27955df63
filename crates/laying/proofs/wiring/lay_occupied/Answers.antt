-- `lay_occupied` meets its contract: the support has its kind.
use Rattle.laying.proofs.wiring.lay_occupied.Goals as goal

pub returns : goal.returns
returns c = rw c.support_kind-support.ensures at c.lay_cell.ensures
