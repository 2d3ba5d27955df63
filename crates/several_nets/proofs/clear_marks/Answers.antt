-- `clear_marks` meets its contract.
use Rattle.several_nets.proofs.clear_marks.Goals as goal

pub returns : goal.returns
returns c = (c.clear.ensures, c.clear-2.ensures, c.clear-3.ensures)
