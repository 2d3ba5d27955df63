-- `Search::spread` meets its contract. The loop's invariant: the visits left from here come to the same as all from the start.
use Rattle.std.proofs.Common.{◌≡◌, ◌-◌}
use Rattle.room.specs.Room.{volume}
use Rattle.repeaters.specs.RootLaws.{Spreading}
use Rattle.repeaters.proofs.Search.spread.Given as goal

abbrev pub invariant-loop-head : goal.invariant-loop-head
invariant-loop-head l = record {
  parents_is : l.self.parents.ghost_name ≡ l.fn.self.parents.ghost_name;
  line_is : l.self.line.ghost_name ≡ l.fn.self.line.ghost_name;
  spreading : Spreading l.room l.source l.links l.self.parents.now l.self.line.now l.head l.self.reached;
}

abbrev pub decreases-loop-head : goal.decreases-loop-head
decreases-loop-head l = volume l.room - l.head
