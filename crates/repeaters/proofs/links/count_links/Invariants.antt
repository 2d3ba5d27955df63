-- `count_links` meets its contract. The loop's invariant: the cells counted and those that the bits left lead to make all.
use Rattle.repeaters.specs.LinkLaws.{LinksCounted}
use Rattle.repeaters.proofs.links.count_links.Given as goal

abbrev pub invariant-loop-k : goal.invariant-loop-k
invariant-loop-k l = LinksCounted l.room l.p l.mask l.rest l.count l.k
