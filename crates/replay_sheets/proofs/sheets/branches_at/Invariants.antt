-- `branches_at` is safe and ends: fewer branches are left, and each has fewer than 2 ^ 32 cells.
use Rattle.std.proofs.Common.{◌≡◌, ◌-◌, ◌*◌, ◌^◌, ◌≤◌, length, rules}
use Rattle.replay_sheets.proofs.sheets.branches_at.Given as goal

abbrev pub invariant-loop-k : goal.invariant-loop-k
invariant-loop-k l = (length l.cells ≡ length l.initial.cells) × (length l.covered ≡ length l.initial.covered) × (l.total ≤ l.k * 2 ^ 32)

abbrev pub decreases-loop-k : goal.decreases-loop-k
decreases-loop-k l = l.count - l.k
