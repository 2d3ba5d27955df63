-- `write_values` meets its contract: wiped, and the three copied to the front.
use Rattle.basics.specs.Copies.{Copied}
use Rattle.nets_reply.specs.Reply.{value_count}
use Rattle.nets_reply.proofs.write_values.Given as goal

abbrev pub invariant-loop-i : goal.invariant-loop-i
invariant-loop-i l = Copied l.front l.initial.values 0 value_count l.i l.values
