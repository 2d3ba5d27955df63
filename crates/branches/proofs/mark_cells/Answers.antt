-- `mark_cells` meets its contract: each round marks one of the cells.
use borrow.Author.Rules.{rules}
use lib.Dec.{eqb}
use native.Mathlib.Omega.{arith}
use Rattle.routing_resources.specs.MarkLaws.{marking-none, marking-on, marking-all}
use Rattle.geometry.specs.Geometry.{stands_in}
use Rattle.branches.proofs.mark_cells.Goals as goal

pub loop-cell-init : goal.loop-cell-init
loop-cell-init c = marking-none _ _ _

pub mark-requires : goal.mark-requires
mark-requires c = rw (c.as_index.ensures.0, c.loop-cell.invariant.long) (c.requires.below c.loop-cell.cell-index (search rules))

pub loop-cell-preserved : goal.loop-cell-preserved
loop-cell-preserved c = marking-on (λ v cell. eqb cell v) _ c.loop-cell.invariant 0 _ c.as_index.ensures.0 (search rules) c.mark.ensures

pub returns : goal.returns
unfolding stands_in
returns c = marking-all (λ v cell. eqb cell v) _ c.loop-cell.invariant (omega arith)
