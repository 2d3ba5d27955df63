-- The search from here comes to the same as from its first state.
use Rattle.std.proofs.Common.{◌-◌}
use Rattle.room_search.specs.TriedMoves.{Kept}
use Rattle.room_search.specs.TakeAllLaws.{Running}
use Rattle.room_search.proofs.Work.take_all.Given as goal

abbrev pub invariant-loop-self : goal.invariant-loop-self
invariant-loop-self l = record {
  kept : Kept l.initial.self l.self;
  running : Running l.field l.initial.self.queue.now l.fn.start.cell l.self l.expanded.0;
}

abbrev pub decreases-loop-self : goal.decreases-loop-self
decreases-loop-self l = l.field.config.limit.0 - l.expanded.0
