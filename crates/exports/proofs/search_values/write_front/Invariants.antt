-- `write_front` meets its contract: the front is copied over a cleared buffer.
use Rattle.basics.specs.Copies.{Copied}
use Rattle.exports.proofs.search_values.write_front.Given as goal

abbrev pub invariant-loop-i : goal.invariant-loop-i
invariant-loop-i l = Copied l.front l.initial.values 0 l.count l.i l.values
