-- `least_key` passes over the keys whose lists are empty; some entry waits, so it ends.
use Prim.Native.Nat.{◌-◌, ◌^◌}
use Rattle.keyed_lists.specs.BeginLaws.{Reached}
use Rattle.keyed_lists.proofs.least_key.Given as goal

abbrev pub invariant-loop-key : goal.invariant-loop-key
invariant-loop-key l = Reached l.queue l.key

abbrev pub decreases-loop-key : goal.decreases-loop-key
decreases-loop-key l = 2 ^ 24 - l.key
