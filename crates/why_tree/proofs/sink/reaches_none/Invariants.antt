-- `reaches_none` meets its contract. The loop's invariant: none of the cells below v is reached and joinable.
use mathlib.Core.Bool.{not}
use Prim.Native.Nat.{ℕ}
use lib.ListN.{length, get_or}
use Rattle.why_tree.specs.Telling.{joined_by}
use Rattle.why_tree.proofs.TellingLaws.{PassedSoFar}
use Rattle.why_tree.proofs.sink.reaches_none.Given as goal

abbrev pub invariant-loop-v : goal.invariant-loop-v
invariant-loop-v l = PassedSoFar (λ (k : ℕ). not (joined_by (get_or l.reached k 0) (get_or l.joinable k 0))) (length l.joinable) l.v
