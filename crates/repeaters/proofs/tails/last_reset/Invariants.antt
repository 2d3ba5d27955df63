-- `last_reset` meets its contract. The loop's invariant: the last repeater of those passed is known.
use Rattle.repeaters.specs.TailLaws.{Last}
use Rattle.repeaters.proofs.tails.last_reset.Given as goal

abbrev pub invariant-loop-i : goal.invariant-loop-i
invariant-loop-i l = Last l.path l.repeaters l.last l.i
