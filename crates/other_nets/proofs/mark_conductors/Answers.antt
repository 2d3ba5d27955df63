-- `mark_conductors` meets its contract: each round marks one cell and its keepout.
use Rattle.routing_resources.specs.MarkLaws.{marking-on, marking-all, read_below}
use Rattle.other_nets.specs.Others.{near_cell}
use Rattle.other_nets.proofs.mark_conductors.Goals as goal

pub mark_near-requires-clause-cell_bound : goal.mark_near-requires-clause-cell_bound
mark_near-requires-clause-cell_bound c = read_below c.requires.all_cells _ c.loop-cell-test.true _ c.as_index.ensures.0

pub loop-cell-preserved : goal.loop-cell-preserved
loop-cell-preserved c = marking-on (near_cell _) _ c.loop-cell.invariant 0 _ c.as_index.ensures.0 c.loop-cell-test.true c.mark_near.ensures

pub returns : goal.returns
returns c = marking-all (near_cell _) _ c.loop-cell.invariant c.loop-cell-test.false
