-- `least_of` meets its contract: from the last on, the least so far.
use Rattle.std.proofs.Common.{◌≡◌, ◌≤◌, drop}
use Rattle.several_nets.specs.Answers.{least_of}
use Rattle.several_nets.proofs.least_of.Given as goal

abbrev pub invariant-loop-i : goal.invariant-loop-i
invariant-loop-i l = (l.i ≤ 14) × (l.least ≡ least_of (drop l.i l.each))
