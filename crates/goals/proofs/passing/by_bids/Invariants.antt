-- `by_bids` meets its contract: the loop's invariant is that the goals of lower bids than the next one are passed. The measure is how far the
-- next bid is from the one above all bids.
use Prim.Native.Nat.{◌-◌}
use Rattle.goals.specs.Trials.{site_of}
use Rattle.goals.specs.Passing.{no_bid}
use Rattle.goals.proofs.PassingLaws.{bid_from, GoalsPassed}
use Rattle.goals.proofs.passing.by_bids.Given as goal

abbrev pub invariant-loop-next : goal.invariant-loop-next
invariant-loop-next l =
    GoalsPassed (site_of l.turn.ground l.turn.kinds.now l.initial.joinable l.initial.queue) l.turn.start l.next l.kept l.initial.joinable l.joinable l.initial.blocked l.blocked l.initial.classes l.classes l.initial.known l.known l.initial.previous l.previous l.initial.path l.path l.initial.best l.best l.initial.queue l.queue

abbrev pub decreases-loop-next : goal.decreases-loop-next
decreases-loop-next l = no_bid - bid_from l.next
