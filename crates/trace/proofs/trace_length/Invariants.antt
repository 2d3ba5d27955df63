-- `trace_length` meets its contract. The loop's invariant: n cells are counted, and those that lead to `cell` are left.
use lib.ListN.{length}
use Rattle.trace.specs.TraceLaws.{Counting}
use Rattle.trace.proofs.trace_length.Given as goal

abbrev pub invariant-loop-n : goal.invariant-loop-n
invariant-loop-n l = Counting l.previous (length l.previous) l.to l.n l.cell
