-- `least_queue` ends: less lies between at each turn. The runs may go on.
use Rattle.std.proofs.Common.{◌≤◌, ◌+◌, ◌-◌}
use denote.Param.Always.{always_mut}
use Rattle.stored.proofs.runs.least_queue.Given as goal

abbrev pub invariant-loop-enough : goal.invariant-loop-enough
invariant-loop-enough g l = record {
  in_order : l.full ≤ l.enough;
  each_less : l.runs + (l.enough - l.full) ≤ l.places;
  callable : always_mut g.F.FnMut l.initial.run → always_mut g.F.FnMut l.run;
}

abbrev pub decreases-loop-enough : goal.decreases-loop-enough
decreases-loop-enough g l = l.enough - l.full
