-- `put_branches` meets its contract: what is put, and what is left to put, are the whole.
use native.Mathlib.Omega.{arith}
use mathlib.Core.Path.{refl}
use lib.ListN.{get_or, drop}
use Rattle.route.specs.BranchLineLaws.{branching_begun, next-within, branch_fits, branching_on, branching_done, branched-count, length_at, part-is}
use Rattle.route.proofs.lines.put_branches.Goals as goal

pub overflow_add-to : goal.overflow_add-to
overflow_add-to c = omega (arith, next-within c.loop-k.invariant (omega (arith, branched-count c.requires.branched)) (length_at c.requires.branched c.loop-k.k (omega arith)))

pub slice_bounds-put_branch-end : goal.slice_bounds-put_branch-end
slice_bounds-put_branch-end c = omega (arith, next-within c.loop-k.invariant (omega (arith, branched-count c.requires.branched)) (length_at c.requires.branched c.loop-k.k (omega arith)))

pub put_branch-end-requires : goal.put_branch-end-requires
put_branch-end-requires c = branch_fits c.loop-k.invariant (omega (arith, branched-count c.requires.branched)) (length_at c.requires.branched c.loop-k.k (omega arith)) (part-is c.loop-k.from (get_or c.args.lengths.each c.loop-k.k 0) (drop c.loop-k.from c.args.cells.now)) c.requires.fits

pub loop-k-preserved : goal.loop-k-preserved
loop-k-preserved c = branching_on c.loop-k.invariant (omega (arith, branched-count c.requires.branched)) (length_at c.requires.branched c.loop-k.k (omega arith)) (part-is c.loop-k.from (get_or c.args.lengths.each c.loop-k.k 0) (drop c.loop-k.from c.args.cells.now)) c.put_branch-end.ensures

pub returns : goal.returns
returns c = branching_done c.loop-k.invariant (omega (arith, branched-count c.requires.branched))
