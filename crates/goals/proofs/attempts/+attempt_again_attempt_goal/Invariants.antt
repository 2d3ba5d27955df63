-- The measure is twice how many are left, and one more between an attempt and the next.
use Prim.Native.Nat.{suc, ◌*◌}
use Rattle.goals.proofs.attempts.+attempt_again_attempt_goal.Given as goal

abbrev pub decreases-attempt_again : goal.decreases-attempt_again
decreases-attempt_again l = suc (2 * l.left)

abbrev pub decreases-attempt_goal : goal.decreases-attempt_goal
decreases-attempt_goal l = 2 * l.left
