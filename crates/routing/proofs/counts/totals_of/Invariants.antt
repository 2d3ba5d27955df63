-- `totals_of` meets its contract: what is left of the path and what was counted make the whole.
use mathlib.Core.Path.{◌≡◌}
use Prim.Native.Nat.{ℕ, ◌+◌}
use Rattle.routing.specs.TotalLaws.{Counting}
use Rattle.routing.proofs.counts.totals_of.Given as goal

abbrev pub invariant-loop-i : goal.invariant-loop-i
invariant-loop-i l = (k : ℕ) → k + 1 ≡ l.i → Counting l.room l.config l.kinds l.path k l.steps l.laid
