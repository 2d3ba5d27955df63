-- `trace_into` meets its contract. The loop's invariant: `left` cells are still to be written, and the others stand behind them.
use lib.ListN.{length}
use mathlib.Core.List.{[]}
use Rattle.best_first.specs.Search.{trace}
use Rattle.trace.specs.TraceLaws.{Writing}
use Rattle.trace.proofs.trace_into.Given as goal

abbrev pub invariant-loop-left : goal.invariant-loop-left
invariant-loop-left l =
    Writing l.previous l.path l.initial.path l.count l.left l.cell (trace (length l.previous) l.previous l.to [])
