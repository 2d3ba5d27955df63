-- The columns below `side` are tried, and the search goes on. Columns of which nothing comes are as good as tried.
use Rattle.std.proofs.Common.{◌*◌, take}
use Rattle.room.specs.Room.{moves}
use Rattle.room_search.specs.AlongLaws.{TriedAlong}
use Rattle.room_search.proofs.Work.expand.Given as goal

abbrev pub invariant-loop-side : goal.invariant-loop-side
invariant-loop-side l = TriedAlong l.field l.from l.initial.self (take (l.side * 3) moves) l.self
