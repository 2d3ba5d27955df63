-- Nothing comes of the column's moves below y.
use Rattle.std.proofs.Common.{ℕ, ◌<◌}
use Rattle.room.specs.Room.{by}
use Rattle.room_search.specs.IdleMoves.{Idle}
use Rattle.room_search.proofs.Work.column_idle.Given as goal

abbrev pub invariant-loop-y : goal.invariant-loop-y
invariant-loop-y l = (k : ℕ) → k < l.y → Idle l.field l.self.known.now l.from (by l.m.x k l.m.z)
