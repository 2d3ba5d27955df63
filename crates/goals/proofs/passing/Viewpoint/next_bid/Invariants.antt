-- `next_bid` meets its contract: the loop's invariant is whose bid is the lowest of the cells below. The measure is how many cells are left.
use Prim.Native.Nat.{◌-◌, ◌≤◌}
use lib.ListN.{length}
use Rattle.goals.specs.Passing.{NextBid}
use Rattle.goals.proofs.passing.Viewpoint.next_bid.Given as goal

abbrev pub invariant-loop-goal : goal.invariant-loop-goal
invariant-loop-goal l = (l.cell ≤ length l.joinable) × NextBid l.self.config l.self.room l.joinable l.self.from l.low l.end l.cell l.next

abbrev pub decreases-loop-goal : goal.decreases-loop-goal
decreases-loop-goal l = length l.joinable - l.cell
