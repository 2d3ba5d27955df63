-- `write_lengths` meets its contract: each round copies one length.
use mathlib.Core.Path.{◌≡◌, sym, ◌∙◌, ap}
use mathlib.Core.List.{map, List, ◌++◌}
use Prim.Native.Nat.{ℕ, ◌-◌, ◌≤◌}
use native.Mathlib.Omega.{arith}
use lib.ListN.{length, length-map, drop}
use lib.Seq.{take-length}
use Rattle.branches.specs.declared.BranchLengths.{BranchLengths}
use Rattle.basics.specs.Copies.{Copied, copied_none, front-next, front-all}
use borrow.Author.Rules.{rules}
use Rattle.job_sheet.specs.Sheet.{max_sinks}
use Rattle.exports.proofs.tree_values.write_lengths.Given as goal

abbrev pub invariant-loop-sink : goal.invariant-loop-sink
invariant-loop-sink l = Copied l.fn.lengths.each l.initial.out 0 max_sinks l.sink l.out
