-- `Search::visit` meets its contract. The loop's invariant: meeting the cells that the bits left lead to comes to the same as meeting all at the start.
use Rattle.std.proofs.Common.{◌≡◌}
use Rattle.repeaters.specs.RootLaws.{Visiting}
use Rattle.repeaters.proofs.Search.visit.Given as goal

abbrev pub invariant-loop-k : goal.invariant-loop-k
invariant-loop-k l = record {
  parents_is : l.self.parents.ghost_name ≡ l.initial.self.parents.ghost_name;
  line_is : l.self.line.ghost_name ≡ l.initial.self.line.ghost_name;
  visiting : Visiting l.room l.p l.from l.mask l.initial.self.parents.now l.initial.self.line.now l.initial.self.reached l.self.parents.now l.self.line.now l.self.reached l.rest l.k;
}
