-- `clear_outputs` meets its contract.
use Rattle.several_nets.proofs.clear_outputs.Goals as goal

pub returns : goal.returns
returns c = (c.clear.ensures, c.clear-2.ensures, c.clear-3.ensures, c.clear-4.ensures, c.clear-5.ensures, c.clear-6.ensures)
