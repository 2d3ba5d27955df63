-- `put_branches` meets its contract: what is put, and what is left to put, are the whole.
use Rattle.branches.specs.Branches.{lengths_in, branches_of}
use Rattle.route.specs.Lines.{branch_lines}
use Rattle.route.specs.BranchLineLaws.{Branching}
use Rattle.route.proofs.lines.put_branches.Given as goal

abbrev pub invariant-loop-k : goal.invariant-loop-k
invariant-loop-k l = Branching l.initial.out l.at (branch_lines (branches_of l.lengths l.cells)) l.cells (lengths_in l.lengths) l.from l.k l.out l.end
