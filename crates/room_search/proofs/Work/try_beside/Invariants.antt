-- The column's moves below y are tried, and the search goes on.
use Rattle.std.proofs.Common.{take}
use Rattle.room_search.specs.TriedMoves.{column}
use Rattle.room_search.specs.AlongLaws.{TriedAlong}
use Rattle.room_search.proofs.Work.try_beside.Given as goal

abbrev pub invariant-loop-y : goal.invariant-loop-y
invariant-loop-y l = TriedAlong l.field l.from l.initial.self (take l.y (column l.m)) l.self
